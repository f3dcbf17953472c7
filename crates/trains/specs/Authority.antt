-- The effective end of a train's authority: none while none is granted; else the nearest of the granted end, the danger
-- location unless the mode is OV, and each order's limit.
use mathlib.Core.{Bool.cond, List.List, List.[], List.◌∷◌}
use Rattle.std.specs.Prelude.{ℕ, zero, suc, min, eqb, Option, None, Some}
use Rattle.transitions.specs.Names.{OV}
use Rattle.trains.specs.{declared.record.Order.Order, declared.record.Train.Train, Record.no_ticket, Record.order_count, Record.order_at}
use Rattle.kinds.specs.Kinds.{same_ticket}

-- an end, or a stop that lies nearer: locations rise ahead
unfoldable pub nearer : ℕ → Option ℕ → ℕ
nearer end None = end
nearer end (Some x) = min end x

-- the nearest of an end and of stops
unfoldable pub nearest : ℕ → List (Option ℕ) → ℕ
nearest end [] = end
nearest end (p ∷ ps) = nearest (nearer end p) ps

-- where an order stops its train: at its limit. A bare order does not stop it; ticket 0 is no order
unfoldable pub order_stop : Order → Option ℕ
order_stop o = cond (same_ticket o.other no_ticket) None o.limit

-- the danger location, which does not count in OV
unfoldable pub danger_stop : Train → Option ℕ
danger_stop t = cond (eqb t.mode OV) None t.track.danger

-- the stops of the orders at the places i, i + 1, .. (n places)
unfoldable pub order_stops : List Order → ℕ → ℕ → List (Option ℕ)
order_stops os i zero = []
order_stops os i (suc n) = order_stop (order_at os i) ∷ order_stops os (suc i) n

-- all that may stop a train before its granted end
abbrev pub stops : Train → List (Option ℕ)
stops t = danger_stop t ∷ order_stops t.orders 0 order_count

-- the effective end below a granted end
abbrev pub end_from : Train → ℕ → ℕ
end_from t granted = nearest granted (stops t)

-- the effective end for what is granted
unfoldable pub end_with : Train → Option ℕ → Option ℕ
end_with t None = None
end_with t (Some granted) = Some (end_from t granted)

-- the effective end
abbrev pub end_of : Train → Option ℕ
end_of t = end_with t t.track.granted
