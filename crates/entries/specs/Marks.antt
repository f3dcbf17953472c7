-- Slots marked in a session's book.
use mathlib.Core.{Bool.cond, List.List}
use Rattle.std.specs.Prelude.{ℕ, zero, suc, ◌+◌, ◌-◌}
use Rattle.numbers.specs.Numbers.{put_number}
use Rattle.rules.specs.{Effect.mark_for, declared.effect.Run.Run}
use Rattle.store.specs.Layout.{book_at}
use Rattle.kinds.specs.{Kinds.last_slot, Ranges.one_to}

-- a slot marked; one that is none of the book's marks nothing
unfoldable pub slot_put : List ℕ → ℕ → ℕ → List ℕ
slot_put bs slot mark = cond (one_to last_slot slot) (put_number 1 bs (book_at + (slot - 1)) mark) bs

-- n slots from one on marked
unfoldable pub slots_put : List ℕ → ℕ → ℕ → ℕ → List ℕ
slots_put bs slot zero mark = bs
slots_put bs slot (suc n) mark = slots_put (slot_put bs slot mark) (suc slot) n mark

-- a run of slots marked taken, or free
abbrev pub run_marked : List ℕ → Run → List ℕ
run_marked bs run = slots_put bs run.start.0 run.slots (mark_for run.taken)
