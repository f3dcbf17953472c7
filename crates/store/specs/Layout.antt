-- Where everything stands in a session's bytes: the ticket counter, the entries kept and the notch that the next entry goes to, 4 bytes each;
-- the slot book, a byte for each slot; the register; and the log's ring, whose notches hold an entry each.
use mathlib.Core.{Bool.Bool, List.List}
use Rattle.std.specs.Prelude.{ℕ, ◌+◌, ◌*◌}
use lib.{Dec.eqb, ListN.length}
use Rattle.replay.specs.Demand3.{depth}
use Rattle.rows.specs.Row.{row_bytes}
use Rattle.kinds.specs.Kinds.{last_slot}
use Rattle.trains.specs.Sought.{row_count}

-- ---- the header, the book and the register

abbrev pub word_bytes : ℕ  -- the bytes of a number of the header
word_bytes = 4

abbrev pub counter_at : ℕ  -- the ticket counter
counter_at = 0

abbrev pub kept_at : ℕ  -- the number of entries kept
kept_at = counter_at + word_bytes

abbrev pub head_at : ℕ  -- the notch of the ring that the next entry goes to
head_at = kept_at + word_bytes

abbrev pub book_at : ℕ  -- the slot book
book_at = head_at + word_bytes

abbrev pub register_at : ℕ  -- the register
register_at = book_at + last_slot

-- row i of the register, counted from 0
abbrev pub row_offset : ℕ → ℕ
row_offset i = register_at + row_bytes * i

abbrev pub log_at : ℕ  -- the log, behind the last row
log_at = row_offset row_count

-- ---- an entry of the log

abbrev pub run_bytes : ℕ  -- the run of slots that was marked: its start, its slots, and its mark before, a byte each
run_bytes = 3

abbrev pub kept_row_bytes : ℕ  -- a row's number and that row, as an entry keeps them
kept_row_bytes = 1 + row_bytes

abbrev pub entry_bytes : ℕ  -- the run, the row that changed, and a second row
entry_bytes = run_bytes + kept_row_bytes + kept_row_bytes

-- the entry in a notch of the ring
abbrev pub entry_offset : ℕ → ℕ
entry_offset notch = log_at + entry_bytes * notch

-- where the entry that starts at e keeps how many slots its run has; the run's start is its first byte
abbrev pub slots_at : ℕ → ℕ
slots_at e = e + 1

-- the run's mark before
abbrev pub mark_at : ℕ → ℕ
mark_at e = e + 2

-- the number of the row that changed; the row stands behind its number
abbrev pub changed_at : ℕ → ℕ
changed_at e = e + run_bytes

-- the number of the second row
abbrev pub also_at : ℕ → ℕ
also_at e = changed_at e + kept_row_bytes

-- ---- the session

abbrev pub session_bytes : ℕ  -- the bytes of a session: the ring has as many notches as the log is deep
session_bytes = entry_offset depth

-- the bytes are as many as a session has
abbrev pub is_session : List ℕ → Bool
is_session bs = eqb (length bs) session_bytes
