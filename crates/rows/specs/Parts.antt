-- The parts of a row: the bytes that each number takes, the numbers of a part in order, and the part that numbers read as.
-- What may be missing is a flag and its numbers: a flag of 0 says that it is missing, and then the numbers are 0.
use mathlib.Core.{Bool.cond, List.List, List.[], List.◌∷◌, List.◌++◌, List.map}
use Rattle.std.specs.Prelude.{ℕ, ◌*◌, Option, None, Some}
use lib.{Dec.eqb, ListN.get_or, ListN.drop}
use Rattle.trains.specs.{declared.record.Order.Order, declared.record.Position.Position}
use Rattle.trains.specs.{declared.record.Track.Track}
use Rattle.trains.specs.Record.{order_at}

-- the widths in bits of numbers whose sizes in bytes are given
abbrev pub bits : List ℕ → List ℕ
bits sizes = map (λ (n : ℕ). 8 * n) sizes

-- ---- sizes in bytes

-- a location, or a limit: its flag and its metres
abbrev pub flagged_sizes : List ℕ
flagged_sizes = 1 ∷ 4 ∷ []

-- a position: its flag, front and rear
abbrev pub position_sizes : List ℕ
position_sizes = 1 ∷ 4 ∷ 4 ∷ []

-- the track: the position, the granted end, the danger location
abbrev pub track_sizes : List ℕ
track_sizes = position_sizes ++ (flagged_sizes ++ flagged_sizes)

-- an order: the other train's ticket, and the limit
abbrev pub order_sizes : List ℕ
order_sizes = 4 ∷ flagged_sizes

-- four orders
abbrev pub orders_sizes : List ℕ
orders_sizes = order_sizes ++ (order_sizes ++ (order_sizes ++ order_sizes))

-- ---- what is put

-- 1 for a number that is there, as a location or a limit is, 0 for none
abbrev pub flag_of : Option ℕ → ℕ
flag_of None = 0
flag_of (Some x) = 1

-- the number, 0 for none
abbrev pub number_of : Option ℕ → ℕ
number_of None = 0
number_of (Some x) = x

-- 1 for a position, 0 for none
abbrev pub position_flag : Option Position → ℕ
position_flag None = 0
position_flag (Some p) = 1

-- the front, 0 for none
abbrev pub position_front : Option Position → ℕ
position_front None = 0
position_front (Some p) = p.front

-- the rear, 0 for none
abbrev pub position_rear : Option Position → ℕ
position_rear None = 0
position_rear (Some p) = p.rear

-- the numbers of what may be missing
abbrev pub optional_values : Option ℕ → List ℕ
optional_values p = flag_of p ∷ number_of p ∷ []

-- the numbers of a position
abbrev pub position_values : Option Position → List ℕ
position_values p = position_flag p ∷ position_front p ∷ position_rear p ∷ []

-- the numbers of the track
abbrev pub track_values : Track → List ℕ
track_values k = position_values k.position ++ (optional_values k.granted ++ optional_values k.danger)

-- the numbers of an order
abbrev pub order_values : Order → List ℕ
order_values o = o.other.0 ∷ optional_values o.limit

-- the numbers of four orders
abbrev pub orders_values : List Order → List ℕ
orders_values os =
    order_values (order_at os 0) ++ (order_values (order_at os 1) ++ (order_values (order_at os 2) ++ order_values (order_at os 3)))

-- ---- what is read

-- what a flag and a number read as
unfoldable pub optional_of : List ℕ → Option ℕ
optional_of vs = cond (eqb (get_or vs 0 0) 0) None (Some (get_or vs 1 0))

-- the position that a flag and two numbers read as
unfoldable pub position_of : List ℕ → Option Position
position_of vs = cond (eqb (get_or vs 0 0) 0) None (Some (record { front = get_or vs 1 0; rear = get_or vs 2 0 }))

-- the track that numbers read as
abbrev pub track_of : List ℕ → Track
track_of vs = record {
  position = position_of vs;
  granted = optional_of (drop 3 vs);
  danger = optional_of (drop 5 vs);
}

-- the order that numbers read as
abbrev pub order_of : List ℕ → Order
order_of vs = record { other = record { 0 = get_or vs 0 0 }; limit = optional_of (drop 1 vs) }

-- the four orders that numbers read as
abbrev pub orders_of : List ℕ → List Order
orders_of vs = order_of vs ∷ order_of (drop 3 vs) ∷ order_of (drop 6 vs) ∷ order_of (drop 9 vs) ∷ []
