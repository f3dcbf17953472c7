-- The records that are made anew: no order, a blank row's record, and a train just granted.
use mathlib.Core.{Bool.Bool, List.List, List.[], List.◌∷◌}
use Rattle.std.specs.Prelude.{ℕ, get_or, None}
use Rattle.transitions.specs.Names.{SB}
use Rattle.kinds.specs.{declared.Loco.Loco, declared.Ticket.Ticket, declared.Slot.Slot}
use Rattle.kinds.specs.Kinds.{no_loco, same_loco}
use Rattle.trains.specs.{declared.record.Order.Order}
use Rattle.trains.specs.{declared.record.Track.Track, declared.record.Train.Train}

-- the ticket that no grant gives: an order under it is none
abbrev pub no_ticket : Ticket
no_ticket = record { 0 = 0 }

-- what stands in a free place of the orders
abbrev pub no_order : Order
no_order = record { other = no_ticket; limit = None }

abbrev pub order_count : ℕ  -- a train has four places for orders
order_count = 4

-- the order at a place, 0 to 3
abbrev pub order_at : List Order → ℕ → Order
order_at os i = get_or os i no_order

-- no position, authority or danger location
abbrev pub no_track : Track
no_track = record { position = None; granted = None; danger = None }

-- a train in a mode that it was not overridden from, with no position, authority, danger location or order
abbrev pub plain_train : Loco → Ticket → Slot → ℕ → ℕ → Train
plain_train loco ticket start slots mode = record {
  loco = loco;
  ticket = ticket;
  start = start;
  slots = slots;
  mode = mode;
  left = 0;
  track = no_track;
  orders = no_order ∷ no_order ∷ no_order ∷ no_order ∷ [];
}

-- the record of an empty row
abbrev pub blank_train : Train
blank_train = plain_train no_loco no_ticket (record { 0 = 0 }) 0 0

-- a train just granted is in SB
abbrev pub fresh_train : Loco → Ticket → Slot → ℕ → Train
fresh_train loco ticket start slots = plain_train loco ticket start slots SB

-- a row is empty exactly when its loco number is 0
abbrev pub is_empty : Train → Bool
is_empty t = same_loco t.loco no_loco
