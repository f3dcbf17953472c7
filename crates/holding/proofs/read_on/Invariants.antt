-- `holding::read_on` meets its contract, and ends: each read brings the end nearer to the longest item's.
use mathlib.Core.Path.{◌≡◌}
use Prim.Native.Nat.{◌≤◌, ◌-◌}
use lib.ListN.{length, take, drop}
use Rattle.std.specs.Io.KnownBytes.{Consumes}
use Rattle.holding.proofs.read_on.Given as goal

abbrev pub invariant-loop-end : goal.invariant-loop-end
invariant-loop-end g l =
    (l.kept ≤ l.end) × (l.end ≤ length l.buffer) × (length l.buffer ≡ length l.initial.buffer) × (take l.kept l.buffer ≡ take l.kept l.initial.buffer)
    × Consumes (g.R.Read.remaining l.initial.reader) (g.R.Read.remaining l.reader) (drop l.kept (take l.end l.buffer))

abbrev pub decreases-loop-end : goal.decreases-loop-end
decreases-loop-end g l = l.longest - l.end
