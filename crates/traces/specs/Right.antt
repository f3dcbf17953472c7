-- A RIGHT TRACE, said without the walk: all its entries are whole, in range, chained and due.
use mathlib.Core.{Bool.true, Bool.false, List.List, Path.◌≡◌}
use Rattle.std.specs.Prelude.{ℕ, ◌+◌, ◌*◌, ◌<◌, length, take, drop}
use Rattle.mark_bytes.specs.Mark.{is_marked}
use Rattle.transitions.specs.Names.{is_mode}
use Rattle.modes.specs.Flags.{flag_above_one}
use Rattle.traces.specs.Entry.{entry_bytes, mode_before, flags_of, mode_after, due_mode}

-- entry i of a trace, counted from 0
abbrev pub entry_at : List ℕ → ℕ → List ℕ
entry_at s i = take entry_bytes (drop (entry_bytes * i) s)

-- its modes are modes, and each flag is 0 or 1
pub record IsInRange (e : List ℕ) : Type 0 where
  pub start : is_mode (mode_before e) ≡ true
  pub flags : flag_above_one (flags_of e) ≡ false
  pub end : is_mode (mode_after e) ≡ true

-- THE TRACE IS RIGHT
pub record IsRightTrace (s : List ℕ) : Type 0 where
  -- it has so many entries
  pub count : ℕ
  -- and nothing behind them
  pub whole : length s ≡ entry_bytes * count
  -- each begins with the mark
  pub marked : (i : ℕ) → i < count → is_marked (entry_at s i) ≡ true
  -- each has modes and flags in range
  pub in_range : (i : ℕ) → i < count → IsInRange (entry_at s i)
  -- each but the first begins where the one before it ended
  pub chained : (i : ℕ) → i + 1 < count → mode_before (entry_at s (i + 1)) ≡ mode_after (entry_at s i)
  -- each ends in the mode that the table and the tie rule give
  pub due : (i : ℕ) → i < count → mode_after (entry_at s i) ≡ due_mode (entry_at s i)
