-- `trains::record::Train::with_order` meets its contract.
use mathlib.Core.Path.{sym, ◌∙◌}
use Rattle.trains.proofs.OrderLaws.{room_below}
use Rattle.trains.proofs.record.Train.with_order.Goals as goal

pub set_at-self-requires : goal.set_at-self-requires
set_at-self-requires c = λ i e. room_below _ _ i (sym c.room-place.ensures ∙ e)
