-- `listing_runs::run_all` is safe and ends: the bytes left fall.
use Prim.Native.Nat.{◌-◌, ◌≤◌, ◌+◌}
use lib.ListN.{length}
use Rattle.listing_runs.proofs.run_all.Given as goal

abbrev pub invariant-loop-at : goal.invariant-loop-at
invariant-loop-at l = l.at ≤ length l.s + 65540

abbrev pub decreases-loop-at : goal.decreases-loop-at
decreases-loop-at l = length l.s - l.at
