-- The three kinds of number that name something in a session: when two are the same, and the range of each.
use Rattle.std.specs.Prelude.{Bool, cond, ℕ, suc, eqb, ltb, Option, None, Some}
use Rattle.kinds.specs.{declared.Loco.Loco, declared.Ticket.Ticket, declared.Slot.Slot, Ranges.one_to}

abbrev pub last_loco : ℕ  -- the highest loco number
last_loco = 131070

abbrev pub last_ticket : ℕ  -- the highest ticket
last_ticket = 65535

abbrev pub last_slot : ℕ  -- the highest slot
last_slot = 44

-- the loco number of an empty row, which names no train
abbrev pub no_loco : Loco
no_loco = record { 0 = 0 }

-- two loco numbers are the same
abbrev pub same_loco : Loco → Loco → Bool
same_loco a b = eqb a.0 b.0

-- two tickets are the same
abbrev pub same_ticket : Ticket → Ticket → Bool
same_ticket a b = eqb a.0 b.0

-- the first ticket is the higher one
abbrev pub is_above : Ticket → Ticket → Bool
is_above a b = ltb b.0 a.0

-- loco numbers are 1 to 131,070
abbrev pub loco_in_range : Loco → Bool
loco_in_range a = one_to last_loco a.0

-- tickets are 1 to 65,535
abbrev pub ticket_in_range : Ticket → Bool
ticket_in_range a = one_to last_ticket a.0

-- the ticket after this one; none after the highest
unfoldable pub next_ticket : Ticket → Option Ticket
next_ticket a = cond (ltb a.0 last_ticket) (Some (record { 0 = suc a.0 })) None

-- slots are 1 to 44
abbrev pub slot_in_range : Slot → Bool
slot_in_range a = one_to last_slot a.0
