-- WHAT FOLLOWS A RECORD CHANGES NOTHING: a reader may hold more than one record, and never needs more than the longest.
use mathlib.Core.Bool.{true, cond}
use mathlib.Core.Path.{◌≡◌, sym, ap, ◌∙◌}
use mathlib.Core.List.{List, ◌++◌}
use Prim.Native.Nat.{ℕ, ◌≤◌}
use lib.ListN.{length, take}
use lib.Seq.{take-append_seam}
use Rattle.standing.specs.Standing.{answered, bytes_left}
use Rattle.records.specs.Form.{longest, record_length, is_record}
use Rattle.records.specs.Told.{not_run, run_with}
use Rattle.records.proofs.FormLaws.{record_most}
use Rattle.records.proofs.FrontLaws.{head-room, kind-front, length_front, run-front, call-front, room-unread}
use Rattle.recording.specs.Running.{ran_record, bytes_after_record}

module _ (held : List ℕ) (m : ℕ) (room : record_length held ≤ m) where
  ran-front : (bs : List ℕ) (before : ℕ) → ran_record bs (take m held) before ≡ ran_record bs held before
  unfolding ran_record
  ran-front bs before =
      λ i. cond (run-front held m room before i) (run_with before (kind-front held m (head-room held m room) i) (length_front held m (head-room held m room) i) (answered bs (call-front held m room i))) (not_run before)

  bytes-front : (bs : List ℕ) (before : ℕ) → bytes_after_record bs (take m held) before ≡ bytes_after_record bs held before
  unfolding bytes_after_record
  bytes-front bs before = λ i. cond (run-front held m room before i) (bytes_left bs (call-front held m room i)) bs

-- ---- the laws

module _ (bs held : List ℕ) (before : ℕ) where
  -- of what is held only the bytes of the longest record are read
  pub longest-enough : (ran_record bs (take longest held) before ≡ ran_record bs held before) × (bytes_after_record bs (take longest held) before ≡ bytes_after_record bs held before)
  longest-enough = (
    ran-front held longest (record_most held) bs before,
    bytes-front held longest (record_most held) bs before,
  )

module _ (held more : List ℕ) (whole : is_record held ≡ true) where
  -- what follows a whole record changes nothing
  pub ran-unread : (bs : List ℕ) (before : ℕ) → ran_record bs (held ++ more) before ≡ ran_record bs held before
  ran-unread bs before =
      sym (ran-front (held ++ more) (length held) (room-unread held more whole) bs before) ∙ ap (λ (s : List ℕ). ran_record bs s before) (take-append_seam held more)

  pub bytes-unread : (bs : List ℕ) (before : ℕ) → bytes_after_record bs (held ++ more) before ≡ bytes_after_record bs held before
  bytes-unread bs before =
      sym (bytes-front (held ++ more) (length held) (room-unread held more whole) bs before)
      ∙ ap (λ (s : List ℕ). bytes_after_record bs s before) (take-append_seam held more)
