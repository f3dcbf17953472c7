-- What a session tells of itself in numbers, and that bytes of another length tell nothing.
use mathlib.Core.{Bool.cond, List.List, List.[], List.◌∷◌}
use Rattle.std.specs.Prelude.{ℕ, Option, None, Some, unwrap_or}
use Rattle.kinds.specs.{Ranges.none}
use Rattle.trains.specs.{Record.order_at}
use Rattle.trains.specs.{declared.record.Order.Order, declared.record.Position.Position}
use Rattle.trains.specs.{declared.record.Train.Train}
use Rattle.rules.specs.{Refusals.wrong_length, Ruling.accepted_with, View.row_in, declared.ruling.Answer.Answer}
use Rattle.store.specs.{Layout.is_session, Stands.view_of}
use Rattle.stepback.specs.Back.{of_session}
use Rattle.host.specs.{declared.told.OrderTold.OrderTold, declared.told.TrainAnswer.TrainAnswer}

-- a number that was asked of a session
unfoldable pub number_answer : List ℕ → ℕ → Answer
number_answer bs n = of_session bs (accepted_with n 0 0)

-- a location or a limit as a number; the number of none where it is missing
abbrev pub number_or_none : Option ℕ → ℕ
number_or_none number = unwrap_or number none

-- the front of a position, or none
unfoldable pub front_number : Option Position → ℕ
front_number None = none
front_number (Some p) = p.front

-- the rear of a position, or none
unfoldable pub rear_number : Option Position → ℕ
rear_number None = none
rear_number (Some p) = p.rear

-- an order: the other train's ticket and the limit
abbrev pub order_told : Order → OrderTold
order_told order = record { ticket = order.other.0; limit = number_or_none order.limit }

-- the four orders of a train
unfoldable pub orders_told : List Order → List OrderTold
orders_told os = order_told (order_at os 0) ∷ order_told (order_at os 1) ∷ order_told (order_at os 2) ∷ order_told (order_at os 3) ∷ []

-- a train's record
unfoldable pub train_told : Train → TrainAnswer
train_told t = record {
  answer = 0;
  loco = t.loco.0;
  ticket = t.ticket.0;
  start = t.start.0;
  slots = t.slots;
  mode = t.mode;
  left = t.left;
  front = front_number t.track.position;
  rear = rear_number t.track.position;
  authority = number_or_none t.track.granted;
  danger = number_or_none t.track.danger;
  orders = orders_told t.orders;
}

-- no order in a refusal: zeros
abbrev pub order_untold : OrderTold
order_untold = record { ticket = 0; limit = 0 }

-- a refusal: zeros
unfoldable pub train_refused : ℕ → TrainAnswer
train_refused reason = record {
  answer = reason;
  loco = 0;
  ticket = 0;
  start = 0;
  slots = 0;
  mode = 0;
  left = 0;
  front = 0;
  rear = 0;
  authority = 0;
  danger = 0;
  orders = order_untold ∷ order_untold ∷ order_untold ∷ order_untold ∷ [];
}

-- the train in a row, counted from 0
unfoldable pub train_answer : List ℕ → ℕ → TrainAnswer
train_answer bs row = cond (is_session bs) (train_told (row_in (view_of bs) row)) (train_refused wrong_length)
