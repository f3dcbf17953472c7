-- `modes::walk` meets its contract. The loop's invariant: the best so far is the choice among the transitions passed.
use mathlib.Core.Path.{◌≡◌}
use Rattle.modes.proofs.Walking.{best_of}
use Rattle.modes.proofs.walk.Given as goal

abbrev pub invariant-loop-transition : goal.invariant-loop-transition
invariant-loop-transition l = l.best ≡ best_of l.mode l.flags l.transition-index
