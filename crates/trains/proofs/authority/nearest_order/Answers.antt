-- `trains::authority::nearest_order` meets its contract.
use mathlib.Core.Path.{sym, ◌∙◌}
use Rattle.trains.proofs.AuthorityLaws.{nearest-step, nearest-end}
use Rattle.trains.proofs.authority.nearest_order.Goals as goal

pub loop-order-preserved : goal.loop-order-preserved
loop-order-preserved c =
    rw (c.nearer_of-end.ensures, c.stop.ensures) (nearest-step _ _ _ _ c.loop-order-test.true ∙ c.loop-order.invariant)

pub returns : goal.returns
returns c = sym (nearest-end _ _ _ _ c.loop-order-test.false) ∙ c.loop-order.invariant
