-- `modes::is_open` meets its contract. The loop's invariant: no condition passed is set, so one is set exactly where one of the rest is.
use mathlib.Core.Path.{◌≡◌}
use lib.ListN.{drop}
use Rattle.transitions.specs.Held.{before_zero, stated}
use Rattle.modes.specs.Flags.{any_set}
use Rattle.modes.proofs.is_open.Given as goal

abbrev pub invariant-loop-n : goal.invariant-loop-n
invariant-loop-n l = any_set l.flags (before_zero (drop l.n-index l.n-items)) ≡ any_set l.flags (stated l.transition)
