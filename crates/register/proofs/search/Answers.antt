-- `register::search` meets its contract.
use mathlib.Core.Path.{refl, sym, ◌∙◌}
use Rattle.kinds.proofs.FoundLaws.{first_hit, first_miss, first-end}
use Rattle.register.specs.Register.{searched}
use Rattle.register.proofs.search.Goals as goal

pub loop-i-init : goal.loop-i-init
unfolding searched
loop-i-init c = refl

pub returns-then-row_holds : goal.returns-then-row_holds
returns-then-row_holds c =
    sym (c.loop-i.invariant ∙ first_hit _ _ _ c.loop-i-test.true (sym c.row_holds.ensures ∙ c.if-row_holds.true))

pub loop-i-preserved : goal.loop-i-preserved
loop-i-preserved c = c.loop-i.invariant ∙ first_miss _ _ _ c.loop-i-test.true (sym c.row_holds.ensures ∙ c.if-row_holds.false)

pub returns : goal.returns
returns c = sym (c.loop-i.invariant ∙ first-end _ _ _ c.loop-i-test.false)
