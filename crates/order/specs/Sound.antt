-- SOUND VIEWS: the book marks every slot of every train, and no slot has two trains. Undoing an operation's marks is exact on these.
use mathlib.Core.{Path.◌≡◌, Bool.false}
use Rattle.std.specs.Prelude.{ℕ, ◌+◌, ◌≤◌, ◌<◌, length}
use Rattle.kinds.specs.Kinds.{last_slot}
use Rattle.trains.specs.{Record.is_empty, Sought.row_count, declared.record.Train.Train}
use Rattle.rules.specs.{Slots.slot_of, View.View, View.row_in, View.mark_of}

-- a row holds a train; a row that is none of the 24 holds none
abbrev pub Live : Train → Type 0
Live t = is_empty t ≡ false

-- a slot of the book
pub record InBook (slot : ℕ) : Type 0 where
  pub low : 1 ≤ slot
  pub high : slot ≤ last_slot

-- a slot is one of a run of n slots from a start on
pub record InRun (start n slot : ℕ) : Type 0 where
  pub low : start ≤ slot
  pub high : slot < start + n

-- a train has a slot of the book: one of its run
pub record Has (t : Train) (slot : ℕ) : Type 0 where
  pub book : InBook slot
  pub run : InRun t.start.0 t.slots slot

-- of numbered things, no two that count share something
abbrev pub NoTwo : {A : Type 0} → (A → Type 0) → (A → A → Type 0) → (ℕ → A) → Type 0
NoTwo Counts Share at = (i j : ℕ) → Counts (at i) → Counts (at j) → Share (at i) (at j) → i ≡ j

-- two trains share a slot
abbrev pub ShareSlot : Train → Train → Type 0
ShareSlot a b = (slot : ℕ) × Has a slot × Has b slot

-- a view is sound
pub record Sound (v : View) : Type 0 where
  -- it has 24 rows
  pub rows : length v.rows ≡ row_count
  -- and 44 slots
  pub book : length v.book ≡ last_slot
  -- every slot of a live row's train is marked
  pub marked : (i slot : ℕ) → Live (row_in v i) → Has (row_in v i) slot → mark_of v.book (slot_of slot) ≡ 1
  -- no two live rows share a slot
  pub apart : NoTwo Live ShareSlot (row_in v)
