-- What an accepted operation does to the view: a run of slots side by side marked in the book, one row changed, and for an SOS a second one.
use mathlib.Core.{Bool.Bool, Bool.false, Bool.not, Bool.cond, List.List}
use Rattle.std.specs.Prelude.{ℕ, zero, suc, ◌-◌, set}
use Rattle.kinds.specs.{Kinds.last_slot, Ranges.one_to, declared.Slot.Slot}
use Rattle.trains.specs.{Record.blank_train, Sought.row_count, declared.record.Train.Train}
use Rattle.rules.specs.{View.View, declared.effect.Change.Change, declared.effect.Effect.Effect, declared.effect.Run.Run}

-- how a slot is marked: 1 where it is taken, 0 where it is free
unfoldable pub mark_for : Bool → ℕ
mark_for taken = cond taken 1 0

-- a slot of the book marked; a slot that is none of the book's marks nothing
unfoldable pub slot_marked : List ℕ → ℕ → ℕ → List ℕ
slot_marked book slot mark = cond (one_to last_slot slot) (set book (slot - 1) mark) book

-- n slots from one on marked
unfoldable pub marked : List ℕ → ℕ → ℕ → ℕ → List ℕ
marked book slot zero mark = book
marked book slot (suc n) mark = marked (slot_marked book slot mark) (suc slot) n mark

-- the same slots with the other mark
abbrev pub turned : Run → Run
turned run = record { start = run.start; slots = run.slots; taken = not run.taken }

-- a row changed
abbrev pub change : ℕ → Train → Change
change row t = record { row = row; train = t }

-- no row changed: there is no row with this number
abbrev pub no_change : Change
no_change = change row_count blank_train

-- an effect by its parts
abbrev pub effect : Slot → ℕ → Bool → Change → Change → Effect
effect start slots taken changed also = record {
  run = record { start = start; slots = slots; taken = taken };
  changed = changed;
  also = also;
}

-- one row changed, and a run of slots taken, or freed
abbrev pub row_and_run : ℕ → Train → Slot → ℕ → Bool → Effect
row_and_run row t start slots taken = effect start slots taken (change row t) no_change

-- the start of a run of no slots
abbrev pub no_slot : Slot
no_slot = record { 0 = 0 }

-- one row changed, and no slot marked
abbrev pub row_only : ℕ → Train → Effect
row_only row t = row_and_run row t no_slot 0 false

-- the rows with one changed
abbrev pub row_changed : List Train → Change → List Train
row_changed rows c = set rows c.row c.train

-- THE VIEW WITH AN EFFECT TAKEN IN
unfoldable pub applied : View → Effect → View
applied v e = record {
  rows = row_changed (row_changed v.rows e.changed) e.also;
  book = marked v.book e.run.start.0 e.run.slots (mark_for e.run.taken);
}
