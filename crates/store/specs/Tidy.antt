-- Bytes that say what they stand for in one way only: rows without stray bytes behind a flag, and a book of noughts and ones.
use mathlib.Core.{List.List, Path.◌≡◌}
use Rattle.std.specs.Prelude.{ℕ, ◌+◌, ◌<◌, ◌≤◌, get_or}
use Rattle.replay.specs.Demand3.{depth}
use Rattle.rows.specs.Row.{row_at, put_row}
use Rattle.kinds.specs.Kinds.{last_slot}
use Rattle.trains.specs.Sought.{row_count}
use Rattle.store.specs.Layout.{book_at, row_offset, entry_offset, changed_at, also_at}

-- the row that starts at a byte is the bytes that putting its train gives
abbrev pub TidyRow : List ℕ → ℕ → Type 0
TidyRow bs at = put_row bs at (row_at bs at) ≡ bs

-- so are the register's rows, and those that the entries keep, each behind its number; and a slot's mark is 0 or 1
pub record Tidy (bs : List ℕ) : Type 0 where
  pub rows : (i : ℕ) → i < row_count → TidyRow bs (row_offset i)
  pub changed : (notch : ℕ) → notch < depth → TidyRow bs (changed_at (entry_offset notch) + 1)
  pub also : (notch : ℕ) → notch < depth → TidyRow bs (also_at (entry_offset notch) + 1)
  pub book : (i : ℕ) → i < last_slot → get_or bs (book_at + i) 0 ≤ 1
