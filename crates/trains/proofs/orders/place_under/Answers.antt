-- `trains::orders::place_under` meets its contract.
use mathlib.Core.Path.{refl, sym, ◌∙◌}
use Rattle.trains.specs.Orders.{stands_under, place_under}
use Rattle.kinds.proofs.FoundLaws.{first_hit, first_miss, first-end}
use Rattle.trains.proofs.orders.place_under.Goals as goal

pub loop-i-init : goal.loop-i-init
unfolding place_under
loop-i-init c = refl

pub returns-then-eq : goal.returns-then-eq
unfolding stands_under
returns-then-eq c = sym (c.loop-i.invariant ∙ first_hit _ _ _ c.loop-i-test.true (sym c.eq.ensures ∙ c.if-eq.true))

pub loop-i-preserved : goal.loop-i-preserved
unfolding stands_under
loop-i-preserved c = c.loop-i.invariant ∙ first_miss _ _ _ c.loop-i-test.true (sym c.eq.ensures ∙ c.if-eq.false)

pub returns : goal.returns
returns c = sym (c.loop-i.invariant ∙ first-end _ _ _ c.loop-i-test.false)
