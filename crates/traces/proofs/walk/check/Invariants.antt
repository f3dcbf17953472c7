-- `traces::walk::check` meets its contract. The loop's invariant: what the entries that are left give is what all give.
use mathlib.Core.Path.{◌≡◌}
use Rattle.std.specs.Slice.Iter.{chunks_rest, chunks_size}
use Rattle.std.specs.Iterator.Adapters.{enumerate_source, enumerate_count}
use Rattle.traces.specs.Entry.{entry_bytes}
use Rattle.traces.proofs.TraceLaws.{Reached}
use Rattle.traces.proofs.walk.check.Given as goal

abbrev pub invariant-loop-i : goal.invariant-loop-i
invariant-loop-i l = record {
  can_next : (goal.iterator-loop-i).can_next l.i-iterator;
  is_finite : (goal.iterator-loop-i).is_finite l.i-iterator;
  size : chunks_size (enumerate_source l.i-iterator) ≡ entry_bytes;
  reached : Reached l.trace (enumerate_count l.i-iterator) l.previous (chunks_rest (enumerate_source l.i-iterator));
}
