-- Laws of tidy bytes: rows that are put are tidy, copied rows as tidy as they were, and so is the empty session.
use Prim.Native.Nat.{ℕ, ◌+◌, ◌-◌, ◌≤◌, ◌<◌}
use mathlib.Core.List.{List}
use mathlib.Core.Logic.{⊎_elim, ◌⊎◌, inl, inr}
use mathlib.Core.Path.{◌≡◌, refl, sym, ap, ◌∙◌}
use native.Mathlib.Omega.{arith}
use lib.ListN.{length, get_or, take, drop, replicate, length-replicate, get_or-replicate}
use lib.Seq.{ext_get_or}
use Rattle.numbers.specs.Fields.{with_digit, put, put_bit}
use Rattle.numbers.specs.Pieces.{pack}
use Rattle.numbers.proofs.FieldLaws.{Bytes, lt_or_le}
use Rattle.replay.specs.Demand3.{depth}
use Rattle.rows.specs.Row.{row_bytes, row_at, put_row}
use Rattle.rows.proofs.FitLaws.{Fits}
use Rattle.rows.proofs.RowLaws.{row_same, row_back_lem, row-zeros, row_image_lem, row_image, length-put_row, bytes-put_row, byte-apart}
use Rattle.kinds.specs.Kinds.{last_slot}
use Rattle.trains.specs.Record.{blank_train}
use Rattle.trains.specs.Sought.{row_count}
use Rattle.trains.specs.declared.record.Train.{Train}
use Rattle.store.specs.Emptied.{emptied}
use Rattle.store.specs.Layout.{book_at, row_offset, entry_offset, changed_at, also_at, session_bytes}
use Rattle.store.specs.Lent.{Lent}
use Rattle.store.specs.Tidy.{TidyRow, Tidy}
use Rattle.store.proofs.EmptyLaws.{length-emptied, byte-emptied, emptied-bytes}
use Rattle.store.proofs.Frames.{Clear, Changes, bytes_stay}
use Rattle.store.proofs.Stretches.{Outside, stretch-same, stretch_at, length-stretch}
use Rattle.store.proofs.ViewLaws.{entry-room}

-- ---- a tidy row

-- a row is tidy exactly where its bytes are those of its record's row
tidy_image : (s : List ℕ) (at : ℕ) → Bytes s → at + row_bytes ≤ length s → TidyRow s at → take row_bytes (drop at s) ≡ row_image (row_at s at)
tidy_image s at h room tidy = ap (λ (x : List ℕ). take row_bytes (drop at x)) (sym tidy) ∙ row_image_lem s at (row_at s at) h room

image_tidy : (s : List ℕ) (at : ℕ) → Bytes s → at + row_bytes ≤ length s → take row_bytes (drop at s) ≡ row_image (row_at s at) → TidyRow s at
image_tidy s at h room same =
    ext_get_or 0 (put_row s at (row_at s at)) s (length-put_row s at (row_at s at)) (λ k l. here k (lt_or_le k at) (lt_or_le k (at + row_bytes)))
  where
    here : (k : ℕ) → (k < at) ⊎ (at ≤ k) → (k < at + row_bytes) ⊎ (at + row_bytes ≤ k) → get_or (put_row s at (row_at s at)) k 0 ≡ get_or s k 0
    here k (inl a) b = byte-apart s at (row_at s at) k h (inl a)
    here k (inr a) (inr b) = byte-apart s at (row_at s at) k h (inr b)
    here k (inr a) (inl b) =
        let d : ℕ = k - at in
        let e : k ≡ at + d = omega arith in
        rw e
        (sym (stretch_at (put_row s at (row_at s at)) row_bytes at d (omega arith))
        ∙ ap (λ (x : List ℕ). get_or x d 0) (row_image_lem s at (row_at s at) h room ∙ sym same)
        ∙ stretch_at s row_bytes at d (omega arith))

-- the same bytes are as tidy, wherever they stand
pub tidy-same : (s t : List ℕ) (a b : ℕ) → Bytes s → Bytes t → a + row_bytes ≤ length s → b + row_bytes ≤ length t
    → ((k : ℕ) → k < row_bytes → get_or t (b + k) 0 ≡ get_or s (a + k) 0) → TidyRow s a → TidyRow t b
tidy-same s t a b hs ht room room' same tidy =
    image_tidy t b ht room'
    (stretch-same t s b a row_bytes room' room same ∙ tidy_image s a hs room tidy ∙ ap row_image (sym (row_same t s b a same)))

-- a row that was put is tidy
pub tidy-put : (s : List ℕ) (at : ℕ) (t : Train) → Bytes s → at + row_bytes ≤ length s → Fits t → TidyRow (put_row s at t) at
tidy-put s at t h room f =
    image_tidy (put_row s at t) at (bytes-put_row s at t h) (rw length-put_row room)
    (row_image_lem s at t h room ∙ ap row_image (sym (row_back_lem s at t f room)))

-- ---- what a change leaves tidy

module _ {s t : List ℕ} {at n : ℕ} (lent : Lent s) (r : Changes s t at n) where
  -- a row outside of it
  pub tidy-stays : (i : ℕ) → i + row_bytes ≤ session_bytes → Clear i row_bytes at n → TidyRow s i → TidyRow t i
  tidy-stays i room clear =
      tidy-same s t i i lent.bytes r.bytes (omega (arith, lent.size)) (omega (arith, lent.size, r.size)) (bytes_stay r i row_bytes clear)

-- and the whole session, where each row and each mark is outside of it or is tidy by itself
module _ {s t : List ℕ} {at n : ℕ} (lent : Lent s) (r : Changes s t at n) (tidy : Tidy s) where
  row_or : (i : ℕ) → i + row_bytes ≤ session_bytes → TidyRow s i → Clear i row_bytes at n ⊎ TidyRow t i → TidyRow t i
  row_or i room h = ⊎_elim (λ clear. tidy-stays lent r i room clear h) (λ h. h)

  pub tidy-after : ((i : ℕ) → i < row_count → Clear (row_offset i) row_bytes at n ⊎ TidyRow t (row_offset i))
      → ((p : ℕ) → p < depth → Clear (changed_at (entry_offset p) + 1) row_bytes at n ⊎ TidyRow t (changed_at (entry_offset p) + 1))
      → ((p : ℕ) → p < depth → Clear (also_at (entry_offset p) + 1) row_bytes at n ⊎ TidyRow t (also_at (entry_offset p) + 1))
      → ((i : ℕ) → i < last_slot → Outside at n (book_at + i) ⊎ (get_or t (book_at + i) 0 ≤ 1))
      → Tidy t
  tidy-after rows changed also book = record {
    rows = λ i l. row_or (row_offset i) (omega arith) (tidy.rows i l) (rows i l);
    changed = λ p l. row_or (changed_at (entry_offset p) + 1) (omega (arith, entry-room p l)) (tidy.changed p l) (changed p l);
    also = λ p l. row_or (also_at (entry_offset p) + 1) (omega (arith, entry-room p l)) (tidy.also p l) (also p l);
    book = λ i l. ⊎_elim (λ o. rw (r.out (book_at + i) o) (tidy.book i l)) (λ h. h) (book i l);
  }

-- ---- the empty session

-- a row of zeros is what putting no train gives
blank_image : row_image blank_train ≡ replicate row_bytes 0
unfolding put_row pack put put_bit with_digit
blank_image = refl

tidy-zeros : (s : List ℕ) (at : ℕ) → Bytes s → at + row_bytes ≤ length s → ((k : ℕ) → get_or s k 0 ≡ 0) → TidyRow s at
tidy-zeros s at h room zeros =
    image_tidy s at h room
    (ext_get_or 0 (take row_bytes (drop at s)) (replicate row_bytes 0)
    (length-stretch s row_bytes at room ∙ sym (length-replicate {A = ℕ} row_bytes 0))
    (λ k l.
    let m : k < row_bytes = omega (arith, length-stretch s row_bytes at room) in
    stretch_at s row_bytes at k m ∙ zeros (at + k) ∙ sym (get_or-replicate {A = ℕ} row_bytes k 0 0 m))
    ∙ sym (ap row_image (row-zeros s at (λ k l. zeros (at + k))) ∙ blank_image))

pub emptied-tidy : (bs : List ℕ) → length bs ≡ session_bytes → Tidy (emptied bs)
emptied-tidy bs e = record {
  rows = λ i l. row (row_offset i) (omega arith);
  changed = λ p l. row (changed_at (entry_offset p) + 1) (omega (arith, entry-room p l));
  also = λ p l. row (also_at (entry_offset p) + 1) (omega (arith, entry-room p l));
  book = λ i l. rw (byte-emptied bs (book_at + i)) (omega arith);
}
  where
    row : (at : ℕ) → at + row_bytes ≤ session_bytes → TidyRow (emptied bs) at
    row at room = tidy-zeros (emptied bs) at (emptied-bytes bs) (omega (arith, length-emptied bs)) (byte-emptied bs)
