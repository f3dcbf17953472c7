-- How a check went, as the calling script is told.
use Rattle.std.specs.Prelude.{Bool, not, cond, ℕ}
use Rattle.traces.specs.Entry.{is_right}
use Rattle.trace_files.specs.declared.files.File.{File}
use Rattle.trace_files.specs.declared.outcome.Outcome.{Outcome}
use Rattle.trace_files.specs.declared.outcome.Outcome.TheVariants.{Right, NotRight, NotDone}

abbrev pub trace_right : Outcome  -- the trace is right
trace_right = Right

abbrev pub trace_not_right : Outcome  -- an entry is wrong, or refused
trace_not_right = NotRight

abbrev pub not_done : Outcome  -- it could not be done: the trace cannot be read, or the most entries were right and its end was not reached, or its answer could not be told
not_done = NotDone

-- the digit that tells it
abbrev pub digit_of : Outcome → ℕ
digit_of Right = 0
digit_of NotRight = 1
digit_of NotDone = 2

unfoldable pub outcome_of : File → Bool → Outcome
outcome_of file told =
    cond file.held.failed not_done
    (cond (not file.over) not_done (cond (not told) not_done (cond (is_right file.judged) trace_right trace_not_right)))
