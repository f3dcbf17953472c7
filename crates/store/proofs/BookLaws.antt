-- Laws of the slot book: slots marked in it, the book in a session's bytes, and a slot that is taken.
use Prim.Native.Nat.{ℕ, zero, suc, ◌+◌, ◌-◌, ◌≤◌, ◌<◌}
use mathlib.Core.Bool.{Bool, true, false, cond, not}
use mathlib.Core.List.{List}
use mathlib.Core.Path.{◌≡◌, refl, sym, ◌∙◌}
use native.Mathlib.Decide.{ℕ_discrete}
use native.Mathlib.Omega.{arith}
use lib.Dec.{eqb}
use lib.ListN.{length, get_or, set, length-set}
use lib.Seq.{get_or-set_same, get_or-set_other, ext_get_or}
use Rattle.kinds.specs.Kinds.{last_slot, slot_in_range}
use Rattle.kinds.specs.declared.Slot.{Slot}
use Rattle.kinds.specs.Ranges.{one_to}
use Rattle.kinds.proofs.RangeLaws.{one-to}
use Rattle.rules.specs.Effect.{slot_marked, marked}
use Rattle.store.specs.Layout.{book_at, register_at}
use Rattle.rules.specs.View.{is_taken}
use Rattle.store.specs.Stands.{book_of}
use Rattle.store.proofs.Stretches.{set_below, stretch_at, length-stretch}

-- ---- the book by itself

pub length-slot_marked : (book : List ℕ) (slot mark : ℕ) → length (slot_marked book slot mark) ≡ length book
unfolding slot_marked
length-slot_marked book slot mark = by (one_to last_slot slot)
  where
    by : (b : Bool) → length (cond b (set book (slot - 1) mark) book) ≡ length book
    by true = length-set book (slot - 1) mark
    by false = refl

pub length_marked : (book : List ℕ) (slot n mark : ℕ) → length (marked book slot n mark) ≡ length book
unfolding marked
length_marked book slot zero mark = refl
length_marked book slot (suc n) mark = length_marked (slot_marked book slot mark) (suc slot) n mark ∙ length-slot_marked book slot mark

slot_below : (m : ℕ) (book : List ℕ) (slot mark : ℕ) → ((k : ℕ) → get_or book k 0 < m) → mark < m → (k : ℕ) → get_or (slot_marked book slot mark) k 0 < m
unfolding slot_marked
slot_below m book slot mark h below = by (one_to last_slot slot)
  where
    by : (b : Bool) → (k : ℕ) → get_or (cond b (set book (slot - 1) mark) book) k 0 < m
    by true = set_below m book (slot - 1) mark h below
    by false = h

-- marks below m stay so: bytes stay bytes, and noughts and ones noughts and ones
pub marked_below : (m : ℕ) (book : List ℕ) (slot n mark : ℕ) → ((k : ℕ) → get_or book k 0 < m) → mark < m → (k : ℕ) → get_or (marked book slot n mark) k 0 < m
unfolding marked
marked_below m book slot zero mark h below = h
marked_below m book slot (suc n) mark h below = marked_below m (slot_marked book slot mark) (suc slot) n mark (slot_below m book slot mark h below) below

-- ---- the book in the bytes

module _ (bs : List ℕ) (room : register_at ≤ length bs) where
  pub length-book : length (book_of bs) ≡ last_slot
  length-book = length-stretch bs last_slot book_at room

  -- one byte of it stored
  pub book-set : (j mark : ℕ) → j < last_slot → book_of (set bs (book_at + j) mark) ≡ set (book_of bs) j mark
  book-set j mark h =
      let t : List ℕ = set bs (book_at + j) mark in
      let size : length (book_of t) ≡ last_slot = length-stretch t last_slot book_at (rw length-set room) in
      ext_get_or 0 (book_of t) (set (book_of bs) j mark) (size ∙ sym (length-set (book_of bs) j mark ∙ length-book))
      (λ k l.
      let m : k < last_slot = omega (arith, size) in
      stretch_at t last_slot book_at k m ∙ at k m (ℕ_discrete k j))
    where
      at : (k : ℕ) → k < last_slot → Dec (k ≡ j) → get_or (set bs (book_at + j) mark) (book_at + k) 0 ≡ get_or (set (book_of bs) j mark) k 0
      at k l (yes e) =
          rw e
          (get_or-set_same bs (book_at + j) mark 0 (omega arith)
          ∙ sym (get_or-set_same (book_of bs) j mark 0 (omega (arith, length-book))))
      at k l (no ne) =
          get_or-set_other bs (book_at + j) (book_at + k) mark 0 (λ e. ne (omega arith))
          ∙ sym (get_or-set_other (book_of bs) j k mark 0 ne ∙ stretch_at bs last_slot book_at k l)

-- ---- a slot that is taken

-- one that is none of the book's is not
pub not_in_book : (bs : List ℕ) (slot : Slot) → slot_in_range slot ≡ false → is_taken (book_of bs) slot ≡ false
unfolding is_taken
not_in_book bs slot e = rw e

-- and one of the book's is, where its byte is not 0
pub taken-by : (bs : List ℕ) (slot : Slot) → slot_in_range slot ≡ true
    → not (eqb (get_or bs (book_at + (slot.0 - 1)) 0) 0) ≡ is_taken (book_of bs) slot
unfolding is_taken
taken-by bs slot e =
    let r : (1 ≤ slot.0) × (slot.0 ≤ last_slot) = one-to last_slot slot.0 e in
    rw (e, stretch_at bs last_slot book_at (slot.0 - 1) (omega arith))
