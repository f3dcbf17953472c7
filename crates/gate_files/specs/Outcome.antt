-- How a file went, as the calling script is told.
use Rattle.std.specs.Prelude.{not, cond, is_some, ℕ}
use Rattle.gate_files.specs.declared.files.File.{File}
use Rattle.gate_files.specs.declared.outcome.Outcome.{Outcome}
use Rattle.gate_files.specs.declared.outcome.Outcome.TheVariants.{AllMoved, WasRefused, NotDone}

abbrev pub all_moved : Outcome  -- every sub-packet is moved
all_moved = AllMoved

abbrev pub was_refused : Outcome  -- a sub-packet is refused
was_refused = WasRefused

abbrev pub not_done : Outcome  -- it could not be done: the file cannot be read, nothing can be written, or the most sub-packets were moved before the file was seen to end
not_done = NotDone

-- the digit that tells it
abbrev pub digit_of : Outcome → ℕ
digit_of AllMoved = 0
digit_of WasRefused = 1
digit_of NotDone = 2

unfoldable pub outcome_of : File → Outcome
outcome_of file =
    cond file.held.failed not_done
    (cond (not file.writable) not_done (cond (not file.over) not_done (cond (is_some file.refused) was_refused all_moved)))
