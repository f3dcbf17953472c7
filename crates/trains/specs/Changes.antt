-- A train record with one part changed. Loco, ticket and slots never change.
use mathlib.Core.{Bool.cond, List.List}
use Rattle.std.specs.Prelude.{ℕ, eqb, Option, Some}
use Rattle.transitions.specs.Names.{OV}
use Rattle.trains.specs.{declared.record.Order.Order, declared.record.Track.Track}
use Rattle.trains.specs.declared.record.Train.{Train}

-- the same train with the mode, the mode left, the track and the orders given
abbrev pub changed : Train → ℕ → ℕ → Track → List Order → Train
changed t mode left track orders = record {
  loco = t.loco;
  ticket = t.ticket;
  start = t.start;
  slots = t.slots;
  mode = mode;
  left = left;
  track = track;
  orders = orders;
}

-- the same train on another track
abbrev pub on_track : Train → Track → Train
on_track t track = changed t t.mode t.left track t.orders

-- the track with a position reported
abbrev pub reported : Track → ℕ → ℕ → Track
reported k front rear = record { position = Some (record { front = front; rear = rear }); granted = k.granted; danger = k.danger }

-- the track with an authority granted, or none
abbrev pub authorised : Track → Option ℕ → Track
authorised k end = record { position = k.position; granted = end; danger = k.danger }

-- the track with a danger location, or none
abbrev pub endangered : Track → Option ℕ → Track
endangered k danger = record { position = k.position; granted = k.granted; danger = danger }

-- a position reported
abbrev pub with_position : Train → ℕ → ℕ → Train
with_position t front rear = on_track t (reported t.track front rear)

-- an authority granted, or none
abbrev pub with_authority : Train → Option ℕ → Train
with_authority t end = on_track t (authorised t.track end)

-- a danger location, or none
abbrev pub with_danger : Train → Option ℕ → Train
with_danger t danger = on_track t (endangered t.track danger)

-- the mode left is kept exactly while the mode is OV
unfoldable pub left_for : ℕ → ℕ → ℕ
left_for left mode = cond (eqb mode OV) left 0

-- a transition to another mode
abbrev pub with_mode : Train → ℕ → Train
with_mode t mode = changed t mode (left_for t.mode mode) t.track t.orders
