-- `trains::record::Train::order_cleared` meets its contract.
use mathlib.Core.Path.{sym, ◌∙◌}
use Rattle.trains.proofs.OrderLaws.{order_below}
use Rattle.trains.proofs.record.Train.order_cleared.Goals as goal

pub set_at-self-requires : goal.set_at-self-requires
set_at-self-requires c = λ i e. order_below _ _ i (sym c.order_place-place.ensures ∙ e)
