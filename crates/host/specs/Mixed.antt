-- What a host does to a session: operations called one by one, and records run, mixed in any order.
use mathlib.Core.{Bool.cond, List.List, List.[], List.◌∷◌}
use Rattle.std.specs.Prelude.{ℕ}
use Rattle.replay.specs.Demand3.{Call}
use Rattle.rules.specs.Rules.{Op}
use Rattle.standing.specs.Standing.{bytes_left}
use Rattle.records.specs.Form.{is_run, call_of}
use Rattle.recording.specs.Running.{bytes_after_record}

-- a call, or a record that is run where so many came before
pub data Did : Type 0 where
  called : Call Op → Did
  ran : List ℕ → ℕ → Did

-- the bytes after one of them: those of its contract
unfoldable pub left_by : List ℕ → Did → List ℕ
left_by bs (called c) = bytes_left bs c
left_by bs (ran held before) = bytes_after_record bs held before

-- the bytes after all of them, the first one first
unfoldable pub left_by_all : List ℕ → List Did → List ℕ
left_by_all bs [] = bs
left_by_all bs (d ∷ ds) = left_by_all (left_by bs d) ds

-- the calls that they make: a record that is not run makes none
unfoldable pub calls_by : List Did → List (Call Op)
calls_by [] = []
calls_by (called c ∷ ds) = c ∷ calls_by ds
calls_by (ran held before ∷ ds) = cond (is_run held before) (call_of held ∷ calls_by ds) (calls_by ds)
