-- The four orders of a train: the place of each, an order put, an order cleared.
use Rattle.std.specs.Option.{option_or}
use mathlib.Core.{Bool.Bool, Bool.cond, List.List, Path.◌≡◌}
use Rattle.std.specs.Prelude.{ℕ, ◌<◌, set, Option, None, Some, is_some}
use Rattle.kinds.specs.{declared.Ticket.Ticket, Found.first, Kinds.same_ticket}
use Rattle.trains.specs.{declared.record.Order.Order, declared.record.Train.Train, Changes.changed}
use Rattle.trains.specs.Record.{no_ticket, no_order, order_count, order_at}

-- the order at place i, 0 to 3, stands under the ticket
unfoldable pub stands_under : List Order → Ticket → ℕ → Bool
stands_under os other i = same_ticket (order_at os i).other other

-- the first place whose order stands under the ticket
unfoldable pub place_under : List Order → Ticket → Option ℕ
place_under os other = first (stands_under os other) 0 order_count

-- the place of the order under a ticket; there is no order under ticket 0
unfoldable pub order_place : List Order → Ticket → Option ℕ
order_place os other = cond (same_ticket other no_ticket) None (place_under os other)

-- where an order goes: to the place of the same other ticket, else to the first free place; none is given under ticket 0
unfoldable pub room : List Order → Ticket → Option ℕ
room os other =
    cond (same_ticket other no_ticket) None (option_or (place_under os other) (place_under os no_ticket))

-- what is found, if anything, is below n
abbrev pub Below : ℕ → Option ℕ → Type 0
Below n f = (i : ℕ) → f ≡ Some i → i < n

-- the orders with one set at a place that was found
unfoldable pub set_at : List Order → Option ℕ → Order → List Order
set_at os None o = os
set_at os (Some i) o = set os i o

-- an order put among the orders; where there is no place for it, they stay
abbrev pub order_put : List Order → Ticket → Option ℕ → List Order
order_put os other limit = set_at os (room os other) (record { other = other; limit = limit })

-- an order cleared from the orders; where there is none, they stay
abbrev pub order_gone : List Order → Ticket → List Order
order_gone os other = set_at os (order_place os other) no_order

-- the same train with other orders
abbrev pub with_orders : Train → List Order → Train
with_orders t os = changed t t.mode t.left t.track os

-- there is an order under the ticket
abbrev pub has_order : Train → Ticket → Bool
has_order t other = is_some (order_place t.orders other)

-- there is a place for an order under the ticket
abbrev pub has_place : Train → Ticket → Bool
has_place t other = is_some (room t.orders other)

-- an order put; where there is no place for it, the record as it was
abbrev pub with_order : Train → Ticket → Option ℕ → Train
with_order t other limit = with_orders t (order_put t.orders other limit)

-- an order cleared; where there is none, the record as it was
abbrev pub order_cleared : Train → Ticket → Train
order_cleared t other = with_orders t (order_gone t.orders other)
