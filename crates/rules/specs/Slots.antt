-- The slot book: how many slots a request needs, and where they are. `per_slot` is the bytes that a slot carries.
use mathlib.Core.{Bool.Bool, Bool.true, Bool.not, Bool.◌&&◌, List.List}
use Rattle.std.specs.Prelude.{ℕ, zero, suc, ◌+◌, ◌-◌, ◌*◌, ◌/◌, Option, None, Some}
use Rattle.kinds.specs.{Found.first, Kinds.last_slot, Kinds.slot_in_range, Ranges.one_to, declared.Slot.Slot}
use Rattle.rules.specs.{View.is_taken}

abbrev pub most_slots : ℕ  -- a request may need six slots
most_slots = 6

-- a request is for 1 byte to six slots' worth
unfoldable pub is_request : ℕ → ℕ → Bool
is_request per_slot bytes = one_to (most_slots * per_slot) bytes

-- the slots that a request needs: its bytes by those of a slot, rounded up
unfoldable pub slots_for : ℕ → ℕ → ℕ
slots_for per_slot bytes = (bytes + (per_slot - 1)) / per_slot

-- the slot with a number
abbrev pub slot_of : ℕ → Slot
slot_of n = record { 0 = n }

-- a slot is one of the book's, and free
unfoldable pub is_free : List ℕ → Slot → Bool
is_free book slot = slot_in_range slot && not (is_taken book slot)

-- n slots side by side from one on are free
unfoldable pub is_run : List ℕ → ℕ → ℕ → Bool
is_run book slot zero = true
is_run book slot (suc n) = is_free book (slot_of slot) && is_run book (suc slot) n

-- the run from a start that was found
unfoldable pub run_from : Option ℕ → Option Slot
run_from None = None
run_from (Some start) = Some (slot_of start)

-- the lowest start where n slots side by side are free
unfoldable pub lowest_run : List ℕ → ℕ → Option Slot
lowest_run book n = run_from (first (λ start. is_run book start n) 1 last_slot)

-- that start; 0 where there is none
unfoldable pub start_of : Option Slot → Slot
start_of None = slot_of 0
start_of (Some start) = start
