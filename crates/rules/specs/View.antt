-- THE VIEW, all that the rules look at beside the ticket counter: the register's trains and the slot book. There is no byte in it.
use mathlib.Core.{Bool.Bool, Bool.not, Bool.◌&&◌, List.List}
use Rattle.std.specs.Prelude.{ℕ, ◌-◌, Option}
use lib.{Dec.eqb, ListN.get_or}
use Rattle.kinds.specs.{Found.first, Kinds.slot_in_range, declared.Slot.Slot}
use Rattle.trains.specs.{Record.blank_train, Sought.row_count, Sought.is_sought, declared.record.Train.Train, declared.sought.Sought.Sought}

-- the 24 rows, and for each of the 44 slots a mark: 0 where it is free
pub record View : Type 0 where
  pub rows : List Train
  pub book : List ℕ

-- the train in row i, counted from 0; no train in any other
abbrev pub row_in : View → ℕ → Train
row_in v i = get_or v.rows i blank_train

-- the mark of a slot
abbrev pub mark_of : List ℕ → Slot → ℕ
mark_of book slot = get_or book (slot.0 - 1) 0

-- a slot is one of the book's, and taken
unfoldable pub is_taken : List ℕ → Slot → Bool
is_taken book slot = slot_in_range slot && not (eqb (mark_of book slot) 0)

-- row i holds what is sought
unfoldable pub sought_in : View → Sought → ℕ → Bool
sought_in v sought i = is_sought sought (row_in v i)

-- the first row that holds what is sought
unfoldable pub find_in : View → Sought → Option ℕ
find_in v sought = first (sought_in v sought) 0 row_count
