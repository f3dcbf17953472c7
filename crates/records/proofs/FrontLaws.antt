-- What follows a record leaves its form as it is.
use mathlib.Core.Bool.{true, ◌&&◌}
use mathlib.Core.Path.{◌≡◌, sym, ap, ap₂, ◌∙◌}
use mathlib.Core.List.{List, ◌++◌}
use Prim.Native.Nat.{ℕ, ◌+◌, ◌≤◌}
use native.Mathlib.Omega.{arith}
use lib.Dec.{eqb, leb, ltb}
use lib.ListN.{length, take, drop}
use lib.Seq.{take-append_seam}
use Rattle.numbers.proofs.FrontLaws.{number-front, part-front, enough-front}
use Rattle.mark_bytes.specs.Mark.{is_marked}
use Rattle.mark_bytes.proofs.MarkLaws.{marked-front}
use Rattle.records.specs.Kinds.{payload_length, call_by}
use Rattle.records.specs.Form.{head_bytes, most_records, kind_of, said_length, record_length, is_record, is_run, payload_of, call_of}
use Rattle.records.proofs.FormLaws.{record_head, record_whole}

-- ---- a front that a record has room in

module _ (held : List ℕ) (m : ℕ) (room : head_bytes ≤ m) where
  pub kind-front : kind_of (take m held) ≡ kind_of held
  kind-front = number-front 1 held 2 m (omega arith)

  pub length_front : record_length (take m held) ≡ record_length held
  unfolding record_length
  length_front = ap (λ (k : ℕ). head_bytes + payload_length k) kind-front

module _ (held : List ℕ) (m : ℕ) (room : record_length held ≤ m) where
  pub head-room : head_bytes ≤ m
  head-room = omega (arith, record_head held)

  record_front : is_record (take m held) ≡ is_record held
  unfolding is_record
  record_front =
      let mark-same : is_marked (take m held) ≡ is_marked held = marked-front held m (omega (arith, head-room)) in
      let said_same : said_length (take m held) ≡ said_length held = number-front 1 held 3 m (omega (arith, head-room)) in
      let kind-same : kind_of (take m held) ≡ kind_of held = kind-front held m head-room in
      let whole_same : leb (record_length (take m held)) (length (take m held)) ≡ leb (record_length held) (length held) =
      ap (λ (n : ℕ). leb n (length (take m held))) (length_front held m head-room) ∙ enough-front (record_length held) m held room in
      λ i. mark-same i && ltb 0 (payload_length (kind-same i)) && eqb (said_same i) (payload_length (kind-same i)) && whole_same i

  pub run-front : (before : ℕ) → is_run (take m held) before ≡ is_run held before
  unfolding is_run
  run-front before = λ i. ltb before most_records && record_front i

  payload_front : payload_of (take m held) ≡ payload_of held
  unfolding payload_of record_length
  payload_front =
      ap (λ (k : ℕ). take (payload_length k) (drop head_bytes (take m held))) (kind-front held m head-room)
      ∙ part-front held head_bytes (payload_length (kind_of held)) m room

  pub call-front : call_of (take m held) ≡ call_of held
  unfolding call_of
  call-front = ap₂ call_by (kind-front held m head-room) payload_front

module _ (held more : List ℕ) (whole : is_record held ≡ true) where
  -- a whole record leaves its length as it is, whatever follows
  pub length-unread : record_length (held ++ more) ≡ record_length held
  length-unread =
      sym (length_front (held ++ more) (length held) (omega (arith, record_head held, record_whole held whole)))
      ∙ ap record_length (take-append_seam held more)

  pub room-unread : record_length (held ++ more) ≤ length held
  room-unread = omega (arith, length-unread, record_whole held whole)

  pub run-unread : (before : ℕ) → is_run (held ++ more) before ≡ is_run held before
  run-unread before =
      sym (run-front (held ++ more) (length held) room-unread before) ∙ ap (λ (s : List ℕ). is_run s before) (take-append_seam held more)
