-- `trace_files::telling::bad_flag` meets its contract: what is found from a flag on is what is found from the first.
use mathlib.Core.Path.{◌≡◌}
use Prim.Native.Nat.{◌-◌}
use Rattle.traces.specs.Entry.{mode_after_at}
use Rattle.trace_files.specs.Reasons.{above_one_from, bad_flag}
use Rattle.trace_files.proofs.telling.bad_flag.Given as goal

abbrev pub invariant-loop-at : goal.invariant-loop-at
invariant-loop-at l = above_one_from (mode_after_at - l.at) l.first l.at ≡ bad_flag l.first
