-- THE LISTING of a recording: from the empty session the records are run one after another, each gets its line, and a record that is not run is
-- the last.
use mathlib.Core.{Bool.Bool, Bool.cond, List.List, List.[], List.◌∷◌, List.◌++◌}
use Rattle.std.specs.Prelude.{ℕ, zero, suc, ◌+◌, length, drop}
use Rattle.lines.specs.Text.{run_line, end_line}
use Rattle.records.specs.{Form.record_length, Form.is_run, declared.told.Ran.Ran}
use Rattle.turns.specs.Turns.{text_of, one_if_accepted}
use Rattle.recording.specs.{Recorded.empty_session, Running.ran_record, Running.bytes_after_record}

-- what the records come to that are held, the first one first, run on a session where so many came before. The bound is on the number of
-- records: as many as there are bytes is always enough
unfoldable pub ran_in : ℕ → List ℕ → List ℕ → ℕ → List Ran
ran_in zero bs held before = []
ran_in (suc most) bs [] before = []
ran_in (suc most) bs (b ∷ more) before =
    ran_record bs (b ∷ more) before
    ∷ cond (is_run (b ∷ more) before)
    (ran_in most (bytes_after_record bs (b ∷ more) before) (drop (record_length (b ∷ more)) (b ∷ more)) (before + 1))
    []

-- all that is held
abbrev pub ran_all : List ℕ → List ℕ → ℕ → List Ran
ran_all bs held before = ran_in (length held) bs held before

-- a line for each
unfoldable pub lines_of : List Ran → List ℕ
lines_of [] = []
lines_of (r ∷ rs) = text_of r ++ lines_of rs

-- the records that were accepted
unfoldable pub accepted_of : List Ran → ℕ
accepted_of [] = 0
accepted_of (r ∷ rs) = one_if_accepted r + accepted_of rs

-- the lines of what is held and the last line, where so many records came before, and so many of them were accepted
unfoldable pub listed_from : List ℕ → List ℕ → ℕ → ℕ → List ℕ
listed_from bs held lines accepted =
    lines_of (ran_all bs held lines) ++ end_line (lines + length (ran_all bs held lines)) (accepted + accepted_of (ran_all bs held lines))

-- THE LISTING of a recording
unfoldable pub listing : List ℕ → List ℕ
listing input = run_line ++ listed_from empty_session input 0 0

-- what is still to be listed between two turns; once it is over, the last line
unfoldable pub left : Bool → List ℕ → List ℕ → ℕ → ℕ → List ℕ
left over bs held lines accepted = cond over (end_line lines accepted) (listed_from bs held lines accepted)
