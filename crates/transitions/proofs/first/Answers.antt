-- `transitions::first` meets its contract: the array has the start of each mode's transitions, and none stands behind the last mode's.
use mathlib.Core.Path.{refl, ◌∙◌}
use native.Mathlib.Omega.{arith}
use Rattle.transitions.specs.Table.{table}
use Rattle.transitions.specs.Held.{first_of}
use Rattle.transitions.proofs.Held.{firsts, first_at_lem, start-behind}
use Rattle.transitions.proofs.first.Goals as goal

pub returns-in-Some : goal.returns-in-Some
unfolding firsts first_of table
returns-in-Some c = let found = c.in-Some.ensures.lookup.3 in found.1 0 ∙ first_at_lem _ refl c.args.mode (omega (arith, found.0))

pub returns-in-None : goal.returns-in-None
returns-in-None c = start-behind _ (omega (arith, c.in-None.ensures.lookup.3))
