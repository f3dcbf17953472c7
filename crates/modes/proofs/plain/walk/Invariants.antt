-- `modes::plain::walk` meets its contract. The loop's invariant: the best so far is that of the transitions passed.
use mathlib.Core.Path.{◌≡◌}
use Rattle.modes.proofs.Passing.{best_of}
use Rattle.modes.proofs.plain.walk.Given as goal

abbrev pub invariant-loop-t : goal.invariant-loop-t
invariant-loop-t l = l.best ≡ best_of l.mode l.flags l.t
