-- Trains come and go: REQUEST and RELEASE.
use Rattle.std.specs.Prelude.{true, false, ℕ, suc, Option, None, Some, is_some}
use Rattle.kinds.specs.{Kinds.last_ticket, Kinds.is_above, Kinds.loco_in_range, declared.Loco.Loco, declared.Slot.Slot}
use Rattle.kinds.specs.{declared.Ticket.Ticket}
use Rattle.trains.specs.{Record.blank_train, Record.fresh_train, Sought.row_count}
use Rattle.trains.specs.declared.sought.Sought.TheVariants.{Number, Empty}
use Rattle.rules.specs.{Effect.row_and_run, View.View, View.find_in}
use Rattle.rules.specs.Refusals.{bad_loco, bad_bytes, already_registered, register_full, no_ticket_left, no_free_run}
use Rattle.rules.specs.Ruling.{accepted_with, ruling, when, unless}
use Rattle.rules.specs.{Slots.is_request, Slots.slots_for, Slots.lowest_run, Slots.start_of, Named.Named}
use Rattle.rules.specs.Ruling.{Ruling}

-- the ticket with a number
abbrev pub ticket_of : ℕ → Ticket
ticket_of n = record { 0 = n }

-- THE NEXT TICKET: the one that a grant takes where the counter stands here
unfoldable pub ticket_for : Ticket → Ticket
ticket_for counter = ticket_of (suc counter.0)

-- the grounds on which a request of bytes is refused, in the order of the checks
unfoldable pub request_ground : ℕ → Loco → ℕ → Ticket → View → ℕ
request_ground per_slot loco bytes counter v =
    unless (loco_in_range loco) bad_loco
    (unless (is_request per_slot bytes) bad_bytes
    (when (is_some (find_in v (Number loco))) already_registered
    (unless (is_some (find_in v Empty)) register_full
    (unless (is_above (ticket_of last_ticket) counter) no_ticket_left
    (unless (is_some (lowest_run v.book (slots_for per_slot bytes))) no_free_run
    0)))))

-- the row that was found; no row where there is none
unfoldable pub row_of_found : Option ℕ → ℕ
row_of_found None = row_count
row_of_found (Some row) = row

-- a train granted: in a row, under a ticket, which is the counter afterwards, with its slots taken
unfoldable pub granted : Loco → ℕ → Ticket → ℕ → Slot → Ruling
granted loco slots ticket row start =
    ruling (accepted_with ticket.0 start.0 slots) ticket (row_and_run row (fresh_train loco ticket start slots) start slots true)

-- REQUEST under a ticket: the first empty row, and the lowest start where its slots are free
abbrev pub requested : ℕ → Loco → ℕ → Ticket → View → Ruling
requested per_slot loco bytes ticket v =
    granted loco (slots_for per_slot bytes) ticket (row_of_found (find_in v Empty)) (start_of (lowest_run v.book (slots_for per_slot bytes)))

-- RELEASE: the row is blank, and its slots are free at once
unfoldable pub released : Ticket → Named → Ruling
released counter n =
    ruling (accepted_with 0 0 0) counter (row_and_run n.row blank_train n.train.start n.train.slots false)
