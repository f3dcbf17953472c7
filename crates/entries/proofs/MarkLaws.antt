-- Laws of marks: slots marked in a session's bytes are slots marked in its book, and nothing else changes.
use Prim.Native.Nat.{ℕ, zero, suc, ◌+◌, ◌-◌, ◌≤◌, ◌<◌}
use mathlib.Core.Bool.{Bool, true, false, cond}
use mathlib.Core.List.{List}
use mathlib.Core.Path.{◌≡◌, refl, ap, ◌∙◌}
use native.Mathlib.Nat.{mod-eq_of_lt}
use native.Mathlib.Omega.{arith}
use lib.ListN.{length, set}
use Rattle.numbers.specs.Numbers.{put_number}
use Rattle.numbers.proofs.FieldLaws.{Bytes, put_byte}
use Rattle.rules.specs.Effect.{mark_for, slot_marked, marked}
use Rattle.store.specs.Layout.{book_at, register_at}
use Rattle.store.specs.Stands.{book_of}
use Rattle.store.proofs.BookLaws.{book-set}
use Rattle.store.proofs.Frames.{Changes, unchanged, widen, next, number_changes}
use Rattle.kinds.specs.Kinds.{last_slot}
use Rattle.kinds.specs.Ranges.{one_to}
use Rattle.kinds.proofs.RangeLaws.{one-to}
use Rattle.entries.specs.Marks.{slot_put, slots_put}

-- a mark is 0 or 1
pub mark-small : (taken : Bool) → mark_for taken < 2
unfolding mark_for
mark-small true = omega arith
mark-small false = omega arith

-- ---- the bytes

-- a slot that is one of the book's, and one that is not
pub slot_there : (s : List ℕ) (slot mark : ℕ) → one_to last_slot slot ≡ true → slot_put s slot mark ≡ put_number 1 s (book_at + (slot - 1)) mark
unfolding slot_put
slot_there s slot mark e = rw e

pub slot_passed : (s : List ℕ) (slot mark : ℕ) → one_to last_slot slot ≡ false → slot_put s slot mark ≡ s
unfolding slot_put
slot_passed s slot mark e = rw e

pub slots-zero : (s : List ℕ) (slot mark : ℕ) → slots_put s slot 0 mark ≡ s
unfolding slots_put
slots-zero s slot mark = refl

-- one slot, and the rest
pub slots-suc : (s : List ℕ) (slot n mark : ℕ) → slots_put (slot_put s slot mark) (suc slot) n mark ≡ slots_put s slot (suc n) mark
unfolding slots_put
slots-suc s slot n mark = refl

-- past the last slot there is none to mark
pub slots_past : (s : List ℕ) (slot n mark : ℕ) → last_slot < slot → slots_put s slot n mark ≡ s
unfolding slots_put
slots_past s slot zero mark h = refl
slots_past s slot (suc n) mark h =
    ap (λ (t : List ℕ). slots_put t (suc slot) n mark) (past (one_to last_slot slot) refl) ∙ slots_past s (suc slot) n mark (omega arith)
  where
    past : (b : Bool) → one_to last_slot slot ≡ b → slot_put s slot mark ≡ s
    past true e = absurd (omega (arith, (one-to last_slot slot e).1))
    past false e = slot_passed s slot mark e

-- ---- only the book changes

slot_changes : (s : List ℕ) (slot mark : ℕ) → Bytes s → Changes s (slot_put s slot mark) book_at last_slot
slot_changes s slot mark h = by (one_to last_slot slot) refl
  where
    by : (b : Bool) → one_to last_slot slot ≡ b → Changes s (slot_put s slot mark) book_at last_slot
    by true e =
        let r : (1 ≤ slot) × (slot ≤ last_slot) = one-to last_slot slot e in
        rw (slot_there s slot mark e) (widen (number_changes 1 s (book_at + (slot - 1)) mark h) book_at last_slot (omega arith) (omega arith))
    by false e = rw (slot_passed s slot mark e) (unchanged h)

pub slots_changes : (s : List ℕ) (slot n mark : ℕ) → Bytes s → Changes s (slots_put s slot n mark) book_at last_slot
unfolding slots_put
slots_changes s slot zero mark h = unchanged h
slots_changes s slot (suc n) mark h =
    let r = slot_changes s slot mark h in next r (slots_changes (slot_put s slot mark) (suc slot) n mark r.bytes)

-- ---- the book after it

slot_book : (s : List ℕ) (slot mark : ℕ) → Bytes s → register_at ≤ length s → mark < 256 → book_of (slot_put s slot mark) ≡ slot_marked (book_of s) slot mark
unfolding slot_marked
slot_book s slot mark h room m = by (one_to last_slot slot) refl
  where
    by : (b : Bool) → one_to last_slot slot ≡ b → book_of (slot_put s slot mark) ≡ cond b (set (book_of s) (slot - 1) mark) (book_of s)
    by true e =
        let r : (1 ≤ slot) × (slot ≤ last_slot) = one-to last_slot slot e in
        ap book_of
        (slot_there s slot mark e
        ∙ put_byte s (book_at + (slot - 1)) mark h (omega arith)
        ∙ ap (set s (book_at + (slot - 1))) (mod-eq_of_lt m))
        ∙ book-set s room (slot - 1) mark (omega arith)
    by false e = ap book_of (slot_passed s slot mark e)

pub slots-book : (s : List ℕ) (slot n mark : ℕ) → Bytes s → register_at ≤ length s → mark < 256
    → book_of (slots_put s slot n mark) ≡ marked (book_of s) slot n mark
unfolding slots_put marked
slots-book s slot zero mark h room m = refl
slots-book s slot (suc n) mark h room m =
    let r = slot_changes s slot mark h in
    slots-book (slot_put s slot mark) (suc slot) n mark r.bytes (omega (arith, r.size)) m
    ∙ ap (λ (b : List ℕ). marked b (suc slot) n mark) (slot_book s slot mark h room m)
