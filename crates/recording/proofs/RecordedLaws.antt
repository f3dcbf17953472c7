-- DEMAND 3 OF A RECORDING: its records are calls of the session, so the demand holds of what it leaves.
use mathlib.Core.Bool.{Bool, true, false}
use mathlib.Core.Path.{◌≡◌, refl, sym, ap, subst, ◌∙◌}
use mathlib.Core.List.{List}
use Prim.Native.Nat.{ℕ, zero, suc, ◌+◌}
use lib.ListN.{length, drop, length-replicate}
use Rattle.replay.specs.Demand3.{Demand3}
use Rattle.store.specs.Emptied.{emptied}
use Rattle.store.specs.Layout.{session_bytes}
use Rattle.session.specs.Answers.{start_after}
use Rattle.standing.specs.Calls.{history, bytes_after_all}
use Rattle.standing.specs.Standing.{bytes_left, session}
use Rattle.standing.proofs.Theorem.{started_is, demand3_from_start}
use Rattle.records.specs.Form.{record_length, is_run, call_of}
use Rattle.recording.specs.Running.{bytes_after_record}
use Rattle.recording.specs.Recorded.{zeros, empty_session, calls_in, left_by, recorded_calls, session_after}

started : (bs : List ℕ) → length bs ≡ session_bytes → start_after bs ≡ zeros (length bs)
unfolding emptied zeros
started bs e = sym (started_is bs e)

-- what `start` makes is the empty session
pub start-empty : (bs : List ℕ) → length bs ≡ session_bytes → start_after bs ≡ empty_session
start-empty bs e = started bs e ∙ ap zeros e

-- the bytes behind the first record
abbrev behind : List ℕ → List ℕ
behind held = drop (record_length held) held

-- what the records leave is what their calls leave
pub left_by_calls : (most : ℕ) (bs held : List ℕ) (before : ℕ) → left_by most bs held before ≡ bytes_after_all bs (calls_in most held before)
unfolding left_by calls_in bytes_after_all bytes_after_record
left_by_calls zero bs held before = refl
left_by_calls (suc most) bs held before =
    of (is_run held before) refl (left_by_calls most (bytes_left bs (call_of held)) (behind held) (before + 1))
  where
    of : (b : Bool) → is_run held before ≡ b
        → left_by most (bytes_left bs (call_of held)) (behind held) (before + 1)
        ≡ bytes_after_all (bytes_left bs (call_of held)) (calls_in most (behind held) (before + 1))
        → left_by (suc most) bs held before ≡ bytes_after_all bs (calls_in (suc most) held before)
    of true e later = simp e later
    of false e later = simp e

zeros-length : (n : ℕ) → length (zeros n) ≡ n
unfolding zeros
zeros-length n = length-replicate n 0

-- DEMAND 3 of every recording, run from the empty session
pub recording_demand3 : (input : List ℕ) → Demand3 session empty_session (history empty_session (recorded_calls input)) (session_after input)
recording_demand3 input =
    subst (λ (bs : List ℕ). Demand3 session empty_session (history empty_session (recorded_calls input)) bs)
    (sym (left_by_calls (length input) empty_session input 0))
    (subst (λ (bs : List ℕ). Demand3 session bs (history bs (recorded_calls input)) (bytes_after_all bs (recorded_calls input)))
    (start-empty empty_session (zeros-length session_bytes))
    (demand3_from_start empty_session (zeros-length session_bytes) (recorded_calls input)))
