-- IN ORDER: what holds of the ticket counter and the view after any operations from the start.
use mathlib.Core.{Path.◌≡◌, Bool.Bool, Bool.true, Bool.false, Bool.cond, Bool.◌||◌, List.List}
use Rattle.std.specs.Prelude.{ℕ, ◌+◌, ◌≤◌, Option, None, Some}
use lib.{Dec.eqb, ListN.length, ListN.get_or, ListN.replicate}
use Rattle.transitions.specs.Names.{SB, FS, OV, OS, PT, IS}
use Rattle.kinds.specs.{Kinds.last_loco, Kinds.last_ticket, Kinds.last_slot, Kinds.same_loco, Kinds.same_ticket, Ranges.last_location}
use Rattle.kinds.specs.{declared.Ticket.Ticket}
use Rattle.trains.specs.{Record.no_ticket, Record.no_order, Record.order_count, Record.order_at, Record.blank_train, Record.is_empty, Sought.row_count}
use Rattle.trains.specs.{declared.record.Order.Order, declared.record.Position.Position}
use Rattle.trains.specs.{declared.record.Train.Train}
use Rattle.rules.specs.{Slots.most_slots, Slots.slot_of, View.View, View.row_in, View.is_taken}
use Rattle.order.specs.Sound.{Live, Has, NoTwo, Sound}

-- ---- one train

-- a location that may be missing is at most 524,287
abbrev pub LocationFits : Option ℕ → Type 0
LocationFits None = Unit
LocationFits (Some x) = x ≤ last_location

-- a reported front is at most 524,287, and the rear is not above it
abbrev pub PositionFits : Option Position → Type 0
PositionFits None = Unit
PositionFits (Some p) = (p.front ≤ last_location) × (p.rear ≤ p.front)

-- an order's limit is at most 524,287, or bare
abbrev pub LimitFits : Option ℕ → Type 0
LimitFits None = Unit
LimitFits (Some x) = x ≤ last_location

-- OV is entered from SB, FS, OS and PT
unfoldable pub leaves_for_ov : ℕ → Bool
leaves_for_ov mode = eqb mode SB || eqb mode FS || eqb mode OS || eqb mode PT

-- the mode left: one of these while the mode is OV, 0 in any other mode
unfoldable pub left_fits : ℕ → ℕ → Bool
left_fits mode left = cond (eqb mode OV) (leaves_for_ov left) (eqb left 0)

-- a ticket that a grant may have given where the counter stands here, or 0
pub record TicketFits (counter ticket : Ticket) : Type 0 where
  pub last : ticket.0 ≤ last_ticket
  pub issued : ticket.0 ≤ counter.0

-- a place that is not free: there is no order under ticket 0
abbrev pub IsOrder : Order → Type 0
IsOrder o = same_ticket o.other no_ticket ≡ false

-- two orders are under one ticket
abbrev pub ShareOther : Order → Order → Type 0
ShareOther a b = same_ticket a.other b.other ≡ true

-- the orders of a train with a ticket, where the counter stands here
pub record OrdersFit (counter own : Ticket) (os : List Order) : Type 0 where
  -- there are four places
  pub four : length os ≡ order_count
  -- every order's ticket was issued
  pub issued : (i : ℕ) → TicketFits counter (order_at os i).other
  -- no order is under the train's own ticket
  pub other : (i : ℕ) → same_ticket (order_at os i).other own ≡ false
  -- no two orders are under one ticket
  pub once : NoTwo IsOrder ShareOther (order_at os)
  -- a free place is blank
  pub free : (i : ℕ) → same_ticket (order_at os i).other no_ticket ≡ true → order_at os i ≡ no_order
  -- every limit is in its range
  pub limits : (i : ℕ) → LimitFits (order_at os i).limit

-- a live train's run: 1 to 6 slots, all in the book
pub record RunFits (start n : ℕ) : Type 0 where
  pub some : 1 ≤ n
  pub few : n ≤ most_slots
  pub low : 1 ≤ start
  pub high : start + n ≤ last_slot + 1

-- a live train, where the counter stands here: every field is in its range
pub record TrainFits (counter : Ticket) (t : Train) : Type 0 where
  -- loco 1 to 131,070
  pub loco : (1 ≤ t.loco.0) × (t.loco.0 ≤ last_loco)
  -- ticket 1 to 65,535, and at most the counter
  pub ticket : 1 ≤ t.ticket.0
  pub issued : TicketFits counter t.ticket
  -- 1 to 6 slots, within 1 to 44
  pub run : RunFits t.start.0 t.slots
  -- mode 1 to 13
  pub mode : (SB ≤ t.mode) × (t.mode ≤ IS)
  -- the mode left for OV
  pub left : left_fits t.mode t.left ≡ true
  -- locations, the rear not above the front
  pub position : PositionFits t.track.position
  pub granted : LocationFits t.track.granted
  pub danger : LocationFits t.track.danger
  -- the orders
  pub orders : OrdersFit counter t.ticket t.orders

-- ---- the view

-- two trains share a loco
abbrev pub ShareLoco : Train → Train → Type 0
ShareLoco a b = same_loco a.loco b.loco ≡ true

-- two trains share a ticket
abbrev pub ShareTicket : Train → Train → Type 0
ShareTicket a b = same_ticket a.ticket b.ticket ≡ true

-- a row whose train has a slot
abbrev pub Holder : View → ℕ → Type 0
Holder v slot = (i : ℕ) × Live (row_in v i) × Has (row_in v i) slot

-- counter and view are in order
pub record InOrder (counter : Ticket) (v : View) : Type 0 where
  -- the book marks every slot of every train, and no two trains share a slot
  pub sound : Sound v
  -- every mark is 0 or 1
  pub marks : (i : ℕ) → get_or v.book i 0 ≤ 1
  -- a slot that is taken has a train
  pub taken : (slot : ℕ) → is_taken v.book (slot_of slot) ≡ true → Holder v slot
  -- no two trains share a loco
  pub locos : NoTwo Live ShareLoco (row_in v)
  -- no two trains share a ticket
  pub tickets : NoTwo Live ShareTicket (row_in v)
  -- every field of a train is in its range
  pub trains : (i : ℕ) → Live (row_in v i) → TrainFits counter (row_in v i)
  -- an empty row is blank
  pub blank : (i : ℕ) → is_empty (row_in v i) ≡ true → row_in v i ≡ blank_train

-- the view at the start: 24 blank rows, and a free book
unfoldable pub start_view : View
start_view = record { rows = replicate row_count blank_train; book = replicate last_slot 0 }
