-- `clock::answer_for` meets its contract.
use mathlib.Core.Bool.{Bool, true, false}
use mathlib.Core.Path.{◌≡◌, refl, ◌∙◌}
use Rattle.std.specs.Int.{from_bool}
use Rattle.numbers.specs.Numbers.{one_if}
use Rattle.clock.specs.Age.{aged}
use Rattle.clock.proofs.answer_for.Goals as goal

-- a test as std makes it a number
bit : (b : Bool) → from_bool b ≡ one_if b
bit true = refl
bit false = refl

pub returns : goal.returns
unfolding aged
returns c =
    λ i. record {
      answer = 0;
      age = c.args.age;
      condition24 = (c.from.ensures ∙ bit _) i;
      condition26 = (c.from-2.ensures ∙ bit _) i;
      condition27 = (c.from-3.ensures ∙ bit _) i;
    }
