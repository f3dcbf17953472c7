-- The table, checked by one test that is computed over the whole of it, and what the test says of each transition.
use mathlib.Core.Path.{◌≡◌, refl, ◌∙◌, sym}
use mathlib.Core.Bool.{Bool, true, false, cond, not, ◌&&◌, false≢true}
use mathlib.Core.List.{List, [], ◌∷◌, Memᴰ}
use Prim.Native.Nat.{ℕ, ◌≤◌, ◌<◌}
use native.Mathlib.Omega.{arith}
use lib.Dec.{eqb, leb}
use lib.ListN.{length}
use borrow.Author.Tests.{leb-true, eqb-true, eqb-false, not-true, eq-eqb}
use Rattle.transitions.specs.Names.{SB, IS}
use Rattle.transitions.specs.Table.{Transition, transition_count, condition_count, table, those}
use Rattle.numbers.proofs.Logic.{both}
use Rattle.transitions.proofs.Members.{of-those, all, each}

-- is a number from a to b?
abbrev pub within : ℕ → ℕ → ℕ → Bool
within a b n = leb a n && leb n b

within_true : (a b n : ℕ) → within a b n ≡ true → (a ≤ n) × (n ≤ b)
within_true a b n e = (leb-true a n (both (leb a n) (leb n b) e).0, leb-true n b (both (leb a n) (leb n b) e).1)

-- does a transition have a priority from 1 to 9, a target that is a mode and not the one it leaves, and conditions that there are?
abbrev pub sound : Transition → Bool
sound a =
    within 1 9 a.priority
    && (within SB IS a.target && (not (eqb a.target a.leaves) && all (within 1 condition_count) a.conditions))

-- do two transitions leave one mode for one target?
abbrev pub alike : Transition → Transition → Bool
alike a b = eqb a.leaves b.leaves && eqb a.target b.target

-- are no two of a list alike?
abbrev pub apart : List Transition → Bool
apart [] = true
apart (x ∷ xs) = all (λ y. not (alike x y)) xs && apart xs

-- the test of the whole table
abbrev pub table_test : Bool
table_test = eqb (length table) transition_count && (all sound table && apart table)

tested : table_test ≡ true
unfolding table
tested = refl

-- what the test says of each transition
pub record Checked (a : Transition) : Type 0 where
  pub priority : (1 ≤ a.priority) × (a.priority ≤ 9)
  pub target : (SB ≤ a.target) × (a.target ≤ IS)
  pub moves : a.target ≡ a.leaves → ⊥
  pub conditions : (n : ℕ) → Memᴰ n a.conditions → (1 ≤ n) × (n ≤ condition_count)

checked : (a : Transition) → sound a ≡ true → Checked a
checked a e =
    let priority = within 1 9 a.priority in
    let target = within SB IS a.target in
    let moves = not (eqb a.target a.leaves) in
    let conditions = all (within 1 condition_count) a.conditions in
    let after-priority = (both priority (target && (moves && conditions)) e).1 in
    let after-target = (both target (moves && conditions) after-priority).1 in
    record {
      priority = within_true 1 9 a.priority (both priority (target && (moves && conditions)) e).0;
      target = within_true SB IS a.target (both target (moves && conditions) after-priority).0;
      moves = eqb-false a.target a.leaves (not-true (eqb a.target a.leaves) (both moves conditions after-target).0);
      conditions = λ n h. within_true 1 condition_count n (each (within 1 condition_count) a.conditions (both moves conditions after-target).1 n h);
    }

-- no transition of a list leaves the same mode for the same target as a later one
abbrev pub Apart : List Transition → Type 0
Apart [] = Unit
Apart (x ∷ xs) = ((y : Transition) → Memᴰ y xs → x.leaves ≡ y.leaves → x.target ≡ y.target → ⊥) × Apart xs

are_apart : (xs : List Transition) → apart xs ≡ true → Apart xs
are_apart [] e = tt
are_apart (x ∷ xs) e = (
  λ y h l t.
      let n = each (λ y. not (alike x y)) xs (both (all (λ y. not (alike x y)) xs) (apart xs) e).0 y h in
      let z : alike x y ≡ true = rw (eq-eqb x.leaves y.leaves l, eq-eqb x.target y.target t) in
      false≢true (sym (not-true (alike x y) n) ∙ z),
  are_apart xs (both (all (λ y. not (alike x y)) xs) (apart xs) e).1,
)

pub apart-those : (p : Transition → Bool) (xs : List Transition) → Apart xs → Apart (those p xs)
apart-those p [] h = tt
apart-those p (x ∷ xs) h = go (p x) (apart-those p xs h.1)
  where
    go : (b : Bool) → Apart (those p xs) → Apart (cond b (x ∷ those p xs) (those p xs))
    go true k = (λ y m. h.0 y (of-those p y xs m).0, k)
    go false k = k

-- two of a list, where no two are alike
pub first_two : (ws : List Transition) → 1 < length ws → Apart ws → (a : Transition) × (b : Transition) × Memᴰ a ws × Memᴰ b ws × (a.leaves ≡ b.leaves → a.target ≡ b.target → ⊥)
first_two [] h p = absurd (omega arith)
first_two (x ∷ []) h p = absurd (omega arith)
first_two (x ∷ (y ∷ ws)) h p = (x, y, Memᴰ.head refl, Memᴰ.tail (Memᴰ.head refl), p.0 y (Memᴰ.head refl))

-- 80 transitions; each has a priority from 1 to 9, a mode other than its own as the target, and conditions from 1 to 91; no two of a mode have the same target
pub record TableChecked : Type 0 where
  pub eighty : length table ≡ transition_count
  pub transitions : (a : Transition) → Memᴰ a table → Checked a
  pub targets : Apart table

pub table-checked : TableChecked
table-checked =
    let rest = (both (eqb (length table) transition_count) (all sound table && apart table) tested).1 in
    record {
      eighty = eqb-true (length table) transition_count (both (eqb (length table) transition_count) (all sound table && apart table) tested).0;
      transitions = λ a h. checked a (each sound table (both (all sound table) (apart table) rest).0 a h);
      targets = are_apart table (both (all sound table) (apart table) rest).1;
    }
