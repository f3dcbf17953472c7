-- What is known of a record that is whole.
use mathlib.Core.Bool.{Bool, true, ◌&&◌}
use mathlib.Core.Path.{◌≡◌, refl, ap}
use mathlib.Core.List.{List}
use Prim.Native.Nat.{ℕ, ◌+◌, ◌-◌, ◌<◌, ◌≤◌}
use native.Mathlib.Omega.{arith}
use borrow.Author.Tests.{leb-true, ltb-true}
use lib.Dec.{eqb, leb, ltb}
use lib.ListN.{length, take, drop}
use Rattle.mark_bytes.specs.Mark.{is_marked}
use Rattle.records.specs.Kinds.{among, payload_length}
use Rattle.records.specs.Form.{head_bytes, longest, kind_of, said_length, record_length, is_record, most_records, is_run, payload_of}
use Rattle.records.proofs.KindLaws.{payload_most}
use Rattle.numbers.proofs.Logic.{both}

-- a record of the flags is as long as the longest
pub longest_met : head_bytes + payload_length 3 ≡ longest
unfolding payload_length among
longest_met = refl

module _ (held : List ℕ) where
  -- a record has its head
  pub record_head : head_bytes ≤ record_length held
  unfolding record_length
  record_head = omega arith

  -- and is never longer than the longest
  pub record_most : record_length held ≤ longest
  unfolding record_length
  record_most = omega (arith, payload_most (kind_of held))

  -- of a whole record every byte is there
  pub record_whole : is_record held ≡ true → record_length held ≤ length held
  unfolding is_record
  record_whole e =
      let n : ℕ = payload_length (kind_of held) in
      let head : Bool = is_marked held && ltb 0 n && eqb (said_length held) n in
      leb-true (record_length held) (length held) (both head (leb (record_length held) (length held)) e).1

  -- and its kind is not 0
  pub record_kind : is_record held ≡ true → kind_of held ≡ 0 → ⊥
  unfolding is_record payload_length among
  record_kind e z =
      let n : ℕ = payload_length (kind_of held) in
      let marked : Bool = is_marked held in
      let said : Bool = eqb (said_length held) n in
      let whole : Bool = leb (record_length held) (length held) in
      let some : 0 < n = ltb-true 0 n (both marked (ltb 0 n) (both (marked && ltb 0 n) said (both (marked && ltb 0 n && said) whole e).0).0).1 in
      omega (arith, some, ap payload_length z)

  -- the payload is what stands from the head to the record's end
  pub payload_cut : (end : ℕ) → end ≡ record_length held → take (end - head_bytes) (drop head_bytes held) ≡ payload_of held
  unfolding record_length payload_of
  payload_cut end e =
      let n : end - head_bytes ≡ payload_length (kind_of held) = omega arith in
      ap (λ (m : ℕ). take m (drop head_bytes held)) n

module _ (held : List ℕ) (before : ℕ) where
  -- a record that is run is whole
  pub run_record : is_run held before ≡ true → is_record held ≡ true
  unfolding is_run
  run_record e = (both (ltb before most_records) (is_record held) e).1

  -- and not past the last
  pub run-few : is_run held before ≡ true → before < most_records
  unfolding is_run
  run-few e = ltb-true before most_records (both (ltb before most_records) (is_record held) e).0

  pub run-whole : is_run held before ≡ true → record_length held ≤ length held
  run-whole e = record_whole held (run_record e)
