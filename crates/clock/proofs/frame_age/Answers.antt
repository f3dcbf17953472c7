-- `clock::frame_age` meets its contract: the numbers are refused, or the age is half their difference.
use mathlib.Core.Path.{ap, ◌∙◌, sym}
use Prim.Native.Nat.{◌/◌}
use Rattle.clock.specs.Age.{out_of_range, age_of, aged}
use Rattle.clock.proofs.Grounds.{age-refused, age-given}
use Rattle.clock.proofs.frame_age.Goals as goal

pub returns-then-is_refused : goal.returns-then-is_refused
returns-then-is_refused c =
    let zero = c.default.ensures in
    (λ i. record { answer = out_of_range; age = zero.1.0 i; condition24 = zero.1.1.0 i; condition26 = zero.1.1.1.0 i; condition27 = zero.1.1.1.1 i })
    ∙ age-refused _ _ (sym c.is_refused.ensures ∙ c.if-is_refused.true)

pub difference-requires : goal.difference-requires
difference-requires c = sym c.is_refused.ensures ∙ c.if-is_refused.false

pub returns : goal.returns
unfolding age_of
returns c =
    c.answer_for.ensures
    ∙ ap (λ n. aged (n / 2)) c.difference.ensures
    ∙ age-given _ _ (sym c.is_refused.ensures ∙ c.if-is_refused.false)
