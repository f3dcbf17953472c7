-- ONE RECORD RUN on a lent session: what its line tells, how many bytes it used, and the session's bytes after it, for all bytes.
use mathlib.Core.{Bool.cond, List.List}
use Rattle.std.specs.Prelude.{ℕ}
use Rattle.standing.specs.Standing.{answered, bytes_left}
use Rattle.records.specs.{Form.kind_of, Form.record_length, Form.is_run, Form.call_of, Told.not_run, Told.run_with, declared.told.Ran.Ran}

-- what running the first record tells
unfoldable pub ran_record : List ℕ → List ℕ → ℕ → Ran
ran_record bs held before =
    cond (is_run held before) (run_with before (kind_of held) (record_length held) (answered bs (call_of held))) (not_run before)

-- the session's bytes after it
unfoldable pub bytes_after_record : List ℕ → List ℕ → ℕ → List ℕ
bytes_after_record bs held before = cond (is_run held before) (bytes_left bs (call_of held)) bs
