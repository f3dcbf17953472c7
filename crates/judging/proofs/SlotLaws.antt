-- Laws of the search for a run of free slots, a turn at a time.
use Rattle.std.specs.Prelude.{None, Some}
use mathlib.Core.Path.{◌≡◌, refl, sym, ap, ◌∙◌}
use mathlib.Core.Bool.{true, false, not}
use mathlib.Core.List.{List}
use mathlib.Core.Logic.{◌⊎◌, inl, inr}
use Prim.Native.Nat.{ℕ, suc, ◌+◌, ◌-◌, ◌≤◌, ◌<◌}
use native.Mathlib.Numerals.{add-one}
use native.Mathlib.Omega.{arith}
use borrow.Author.Tests.{le-leb, lt-leb}
use Rattle.kinds.specs.Found.{first}
use Rattle.kinds.specs.Kinds.{last_slot}
use Rattle.kinds.specs.Ranges.{one_to}
use Rattle.kinds.proofs.FoundLaws.{first_hit, first_miss, first-end}
use Rattle.rules.specs.View.{is_taken}
use Rattle.rules.specs.Slots.{slot_of, is_free, is_run, run_from, lowest_run}

-- a slot of the book is free exactly when it is not taken
pub free_in : (book : List ℕ) (slot : ℕ) → one_to last_slot slot ≡ true → not (is_taken book (slot_of slot)) ≡ is_free book (slot_of slot)
unfolding is_free
free_in book slot h = rw h

-- and no other slot is free
pub free_out : (book : List ℕ) (slot : ℕ) → one_to last_slot slot ≡ false → false ≡ is_free book (slot_of slot)
unfolding is_free
free_out book slot h = rw h

-- the slots of the book are 1 to 44
pub in_book : (slot : ℕ) → 1 ≤ slot → slot ≤ last_slot → one_to last_slot slot ≡ true
unfolding one_to
in_book slot l h = simp (le-leb 1 slot l, le-leb slot last_slot h)

pub not_in_book : (slot : ℕ) → (slot < 1) ⊎ (last_slot < slot) → one_to last_slot slot ≡ false
unfolding one_to
not_in_book slot (inl h) = simp (lt-leb 1 slot h)
not_in_book slot (inr h) = simp (le-leb 1 slot (omega arith), lt-leb slot last_slot h)

less : (i e : ℕ) → i < e → e - i ≡ suc (e - (i + 1))
less i e h = omega arith

-- ---- a run, a slot at a time

pub run-all : (book : List ℕ) (n s : ℕ) → is_run book s n ≡ is_run book s (s + n - s)
run-all book n s = let z : s + n - s ≡ n = omega arith in rw z

pub run_more : (book : List ℕ) (i e : ℕ) → i < e → is_free book (slot_of i) ≡ true → is_run book i (e - i) ≡ is_run book (i + 1) (e - (i + 1))
unfolding is_run
run_more book i e h q = rw (less i e h, q, add-one i)

pub run_not : (book : List ℕ) (i e : ℕ) → i < e → is_free book (slot_of i) ≡ false → is_run book i (e - i) ≡ false
unfolding is_run
run_not book i e h q = rw (less i e h, q)

pub run_end : (book : List ℕ) (i e : ℕ) → e ≤ i → is_run book i (e - i) ≡ true
unfolding is_run
run_end book i e h = let z : e - i ≡ 0 = omega arith in rw z

-- ---- the search, a start at a time

-- the search has passed the starts below s
unfoldable pub Passed : List ℕ → ℕ → ℕ → Type 0
Passed book n s = lowest_run book n ≡ run_from (first (λ start. is_run book start n) s (suc last_slot - s))

pub passed_none : (book : List ℕ) (n : ℕ) → Passed book n 1
unfolding Passed lowest_run
passed_none book n = refl

pub passed-more : (book : List ℕ) (n s t : ℕ) → t ≡ s → s ≤ last_slot → is_run book s n ≡ false → Passed book n s → Passed book n (t + 1)
unfolding Passed
passed-more book n s t e h q r = rw e (r ∙ ap run_from (first_miss (λ start. is_run book start n) s (suc last_slot) (omega arith) q))

pub passed-all : (book : List ℕ) (n s : ℕ) → last_slot < s → Passed book n s → None ≡ lowest_run book n
unfolding Passed run_from
passed-all book n s h r = sym (r ∙ ap run_from (first-end (λ start. is_run book start n) s (suc last_slot) (omega arith)))

pub passed_hit : (book : List ℕ) (n s t : ℕ) → t ≡ s → s ≤ last_slot → is_run book s n ≡ true → Passed book n s → Some (slot_of t) ≡ lowest_run book n
unfolding Passed run_from
passed_hit book n s t e h q r = rw e (sym (r ∙ ap run_from (first_hit (λ start. is_run book start n) s (suc last_slot) (omega arith) q)))
