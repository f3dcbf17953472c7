-- `turns::accepted_by` meets its contract.
use mathlib.Core.Bool.{Bool, true, false, cond}
use mathlib.Core.Path.{◌≡◌, refl, ◌∙◌}
use Rattle.std.specs.Int.{from_bool}
use Rattle.turns.specs.Turns.{one_if_accepted}
use Rattle.turns.proofs.accepted_by.Goals as goal

-- a test as std makes it a number
bit : (b : Bool) → from_bool b ≡ cond b 1 0
bit true = refl
bit false = refl

pub returns : goal.returns
unfolding one_if_accepted
returns c = c.from.ensures ∙ bit _
