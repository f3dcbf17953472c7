-- The empty session that a recording is run from, the calls that it makes, and the session's bytes after them: what demand 3 speaks of.
use mathlib.Core.{Bool.cond, List.List, List.[], List.◌∷◌}
use Rattle.std.specs.Prelude.{ℕ, zero, suc, ◌+◌, length, drop, replicate}
use Rattle.replay.specs.Demand3.{Call}
use Rattle.rules.specs.Rules.{Op}
use Rattle.store.specs.Layout.{session_bytes}
use Rattle.records.specs.Form.{record_length, is_run, call_of}
use Rattle.recording.specs.Running.{bytes_after_record}

-- so many zeros
unfoldable pub zeros : ℕ → List ℕ
zeros n = replicate n 0

-- the bytes of an empty session
abbrev pub empty_session : List ℕ
empty_session = zeros session_bytes

-- the calls of the records that are held, up to one that is not run, where so many came before; the bound is on the number of records
unfoldable pub calls_in : ℕ → List ℕ → ℕ → List (Call Op)
calls_in zero held before = []
calls_in (suc most) held before = cond (is_run held before) (call_of held ∷ calls_in most (drop (record_length held) held) (before + 1)) []

-- the session's bytes after those records are run
unfoldable pub left_by : ℕ → List ℕ → List ℕ → ℕ → List ℕ
left_by zero bs held before = bs
left_by (suc most) bs held before =
    cond (is_run held before) (left_by most (bytes_after_record bs held before) (drop (record_length held) held) (before + 1)) bs

-- the calls of a recording
abbrev pub recorded_calls : List ℕ → List (Call Op)
recorded_calls input = calls_in (length input) input 0

-- the session's bytes after a recording
abbrev pub session_after : List ℕ → List ℕ
session_after input = left_by (length input) empty_session input 0
