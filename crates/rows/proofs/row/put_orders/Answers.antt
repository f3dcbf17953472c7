-- `rows::row::put_orders` meets its contract: what is left, put, is the whole.
use mathlib.Core.Path.{refl, sym, ◌∙◌}
use Rattle.rows.proofs.RowLaws.{sizes_left, values_left, order-next, order-end}
use Rattle.rows.proofs.row.put_orders.Goals as goal

pub loop-k-init : goal.loop-k-init
unfolding sizes_left values_left
loop-k-init c = refl

pub loop-k-preserved : goal.loop-k-preserved
loop-k-preserved c = c.loop-k.invariant ∙ order-next _ _ _ _ c.loop-k-test.true c.put_order.ensures

pub returns : goal.returns
returns c = sym (c.loop-k.invariant ∙ order-end _ _ _ _ c.loop-k-test.false)
