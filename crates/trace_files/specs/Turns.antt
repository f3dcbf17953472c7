-- A TRACE CHECKED IN TURNS: what a turn reads and judges, and what the turns of a trace come to.
use mathlib.Core.{Bool.Bool, Bool.true, Bool.false, Bool.not, Bool.cond, Bool.◌&&◌, List.List, List.[], List.◌++◌, Path.◌≡◌}
use Rattle.std.specs.Prelude.{ℕ, ◌+◌, ◌*◌, ◌≤◌}
use lib.{Dec.ltb, ListN.length}
use Rattle.holding.specs.{declared.Held.Held, Held.held_bytes, Held.nothing_held, Held.behind_by, Held.is_end, Held.IsReady}
use Rattle.traces.specs.{Entry.entry_bytes, Entry.mode_after, Entry.no_mode, Entry.right, Entry.is_right, Entry.judged, declared.entry.Judged.Judged}
use Rattle.traces.specs.{Trace.yes, Trace.told_at, Trace.checked, declared.walk.Checked.Checked}
use Rattle.trace_files.specs.declared.files.File.{File}

-- a file of which nothing is read yet
abbrev pub begun_file : File
begun_file = record { held = nothing_held; entries = 0; previous = no_mode; judged = right; over = false }

abbrev pub most_entries : ℕ  -- the most entries of a file: 64 bits count their bytes
most_entries = 194176253407468964

-- it goes on until it is over, or nothing can be read, or it has the most entries
unfoldable pub goes_on : File → Bool
goes_on file = not file.over && not file.held.failed && ltb file.entries most_entries

-- the file where it stops: nothing is left, or the next entry is not right. It is over, unless it could not be read
abbrev pub stopped_at : File → Held → Judged → File
stopped_at file held judged = record {
  held = held;
  entries = file.entries;
  previous = file.previous;
  judged = judged;
  over = not held.failed;
}

-- an entry was right: it is counted, what it used is not held any more, and its mode after comes before the next
abbrev pub right_on : File → Held → List ℕ → File
right_on file held first = record {
  held = behind_by entry_bytes held;
  entries = file.entries + 1;
  previous = mode_after first;
  judged = judged file.previous first;
  over = false;
}

-- THE FIRST ENTRY of what is held is judged, unless there is none
unfoldable pub judged_first : File → Held → List ℕ → File
judged_first file held first =
    cond (is_end held first) (stopped_at file held right)
    (cond (is_right (judged file.previous first)) (right_on file held first) (stopped_at file held (judged file.previous first)))

-- ONE TURN: what is held is made ready, and the first entry of it is judged
pub record IsTurn (file : File) (before after : List ℕ) (r : File) : Type 0 where
  pub held : Held
  pub ready : IsReady entry_bytes before file.held after held
  pub judges : r ≡ judged_first file held (held_bytes after held)

-- THE TURNS of a file from where it begins, one after another, and what was read in them
pub data Turns (start : List ℕ) : List ℕ → List ℕ → File → Type 0 where
  begin : Turns start [] start begun_file
  next : {read before after : List ℕ} {file r : File} → Turns start read before file → goes_on file ≡ true → (t : IsTurn file before after r)
      → Turns start (read ++ t.ready.more) after r

-- the answer that a file tells once it is over
abbrev pub answer_of : File → Checked
answer_of file = cond (is_right file.judged) yes (told_at (file.entries + 1) file.judged)

-- THE TRACE IS CHECKED: turns were made until the file stopped, and where it is over, its answer is that of what was read, whatever may still stand
-- behind it; and where that is a yes, so many entries were read
pub record IsChecked (start after : List ℕ) (r : File) : Type 0 where
  pub read : List ℕ
  pub turns : Turns start read after r
  pub stopped : goes_on r ≡ false
  pub few : r.entries ≤ most_entries
  pub answered : r.over ≡ true → (rest : List ℕ) → (r.held.ended ≡ true → rest ≡ []) → checked (read ++ rest) ≡ answer_of r
  pub counted : r.over ≡ true → is_right r.judged ≡ true → length read ≡ entry_bytes * r.entries
