-- Laws of a run marked in the book: the run's own slots get the mark, every other slot keeps its own.
use mathlib.Core.Path.{◌≡◌, refl, ◌∙◌}
use mathlib.Core.Bool.{Bool, true, false, cond}
use mathlib.Core.List.{List}
use mathlib.Core.Logic.{⊎_elim}
use Prim.Native.Nat.{ℕ, zero, suc, ◌-◌}
use native.Mathlib.Nat.{eq-or-lt_of_le}
use native.Mathlib.Omega.{arith}
use lib.ListN.{length, get_or, set, length-set}
use lib.Seq.{get_or-set_same, get_or-set_other}
use borrow.Author.Tests.{le-leb}
use Rattle.kinds.specs.Kinds.{last_slot}
use Rattle.kinds.specs.Ranges.{one_to}
use Rattle.kinds.proofs.RangeLaws.{one-to}
use Rattle.rules.specs.Effect.{slot_marked, marked}
use Rattle.rules.specs.Slots.{slot_of}
use Rattle.rules.specs.View.{mark_of}
use Rattle.order.specs.Sound.{InBook, InRun}
use Rattle.order.proofs.RowLaws.{set_each}

-- ---- one slot marked

module _ (book : List ℕ) (k mark : ℕ) where
  slot_length : length (slot_marked book k mark) ≡ length book
  unfolding slot_marked
  slot_length = go (one_to last_slot k)
    where
      go : (b : Bool) → length (cond b (set book (k - 1) mark) book) ≡ length book
      go true = length-set book (k - 1) mark
      go false = refl

  slot_other : (slot : ℕ) → InBook slot → (slot ≡ k → ⊥) → mark_of (slot_marked book k mark) (slot_of slot) ≡ mark_of book (slot_of slot)
  unfolding slot_marked
  slot_other slot h n = go (one_to last_slot k) refl
    where
      go : (b : Bool) → one_to last_slot k ≡ b → get_or (cond b (set book (k - 1) mark) book) (slot - 1) 0 ≡ get_or book (slot - 1) 0
      go true e = let range = one-to last_slot k e in get_or-set_other book (k - 1) (slot - 1) mark 0 (λ q. n (omega (arith, range)))
      go false e = refl

  slot_same : length book ≡ last_slot → InBook k → mark_of (slot_marked book k mark) (slot_of k) ≡ mark
  unfolding slot_marked one_to
  slot_same l h = rw (le-leb 1 k h.low, le-leb k last_slot h.high) (get_or-set_same book (k - 1) mark 0 (omega arith))

slot_each : (P : ℕ → Type 0) (book : List ℕ) (k mark : ℕ) → length book ≡ last_slot → P mark → ((i : ℕ) → P (get_or book i 0))
    → (i : ℕ) → P (get_or (slot_marked book k mark) i 0)
unfolding slot_marked
slot_each P book k mark l h each i = go (one_to last_slot k) refl
  where
    go : (b : Bool) → one_to last_slot k ≡ b → P (get_or (cond b (set book (k - 1) mark) book) i 0)
    go true e =
        let range = one-to last_slot k e in
        set_each (λ (j m : ℕ). P m) 0 book (k - 1) mark (omega (arith, range)) h (λ j n. each j) i
    go false e = each i

-- ---- a run marked

pub marked-length : (book : List ℕ) (start n mark : ℕ) → length (marked book start n mark) ≡ length book
unfolding marked
marked-length book start zero mark = refl
marked-length book start (suc n) mark = marked-length (slot_marked book start mark) (suc start) n mark ∙ slot_length book start mark

pub marked_outside : (book : List ℕ) (start n mark slot : ℕ) → InBook slot → (InRun start n slot → ⊥)
    → mark_of (marked book start n mark) (slot_of slot) ≡ mark_of book (slot_of slot)
unfolding marked
marked_outside book start zero mark slot h out = refl
marked_outside book start (suc n) mark slot h out =
    marked_outside (slot_marked book start mark) (suc start) n mark slot h (λ r. out (record { low = omega (arith, r); high = omega (arith, r) }))
    ∙ slot_other book start mark slot h (λ e. out (record { low = omega arith; high = omega arith }))

pub marked-inside : (book : List ℕ) (start n mark slot : ℕ) → length book ≡ last_slot → InBook slot → InRun start n slot
    → mark_of (marked book start n mark) (slot_of slot) ≡ mark
unfolding marked
marked-inside book start zero mark slot l h r = absurd (omega arith)
marked-inside book start (suc n) mark slot l h r =
    ⊎_elim
    (λ e.
    marked_outside (slot_marked book start mark) (suc start) n mark slot h (λ q. omega (arith, q))
    ∙ rw e (slot_same book slot mark l h))
    (λ m.
    marked-inside (slot_marked book start mark) (suc start) n mark slot (slot_length book start mark ∙ l) h
    (record { low = m; high = omega (arith, r) }))
    (eq-or-lt_of_le r.low)

-- what holds of the mark and of every mark before holds of every mark
pub marked_each : (P : ℕ → Type 0) (book : List ℕ) (start n mark : ℕ) → length book ≡ last_slot → P mark → ((i : ℕ) → P (get_or book i 0))
    → (i : ℕ) → P (get_or (marked book start n mark) i 0)
unfolding marked
marked_each P book start zero mark l h each = each
marked_each P book start (suc n) mark l h each =
    marked_each P (slot_marked book start mark) (suc start) n mark (slot_length book start mark ∙ l) h (slot_each P book start mark l h each)
