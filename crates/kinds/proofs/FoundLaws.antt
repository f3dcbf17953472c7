-- Laws of `first`: what a search that goes up from i finds, and what it means.
use Rattle.std.specs.Prelude.{Option, None, Some}
use Prim.Native.Nat.{ℕ, zero, suc, ◌+◌, ◌-◌, ◌<◌, ◌≤◌}
use mathlib.Core.Bool.{Bool, true, false, cond}
use mathlib.Core.Logic.{⊎_elim}
use mathlib.Core.Path.{◌≡◌, refl}
use native.Mathlib.Nat.{eq-or-lt_of_le}
use native.Mathlib.Numerals.{add-one}
use native.Mathlib.Omega.{arith}
use Rattle.kinds.specs.Found.{first}

-- ---- for a loop that goes from i up to e

less : (i e : ℕ) → i < e → e - i ≡ suc (e - (i + 1))
less i e h = omega arith

pub first_hit : (p : ℕ → Bool) (i e : ℕ) → i < e → p i ≡ true → first p i (e - i) ≡ Some i
unfolding first
first_hit p i e h q = rw (less i e h, q)

pub first_miss : (p : ℕ → Bool) (i e : ℕ) → i < e → p i ≡ false → first p i (e - i) ≡ first p (i + 1) (e - (i + 1))
unfolding first
first_miss p i e h q = rw (less i e h, q, add-one i)

pub first-end : (p : ℕ → Bool) (i e : ℕ) → e ≤ i → first p i (e - i) ≡ None
unfolding first
first-end p i e h = let z : e - i ≡ 0 = omega arith in rw z

-- ---- what is found is within the run

below_go : (p : ℕ → Bool) (i n j : ℕ) (b : Bool) → (first p (suc i) n ≡ Some j → j < suc i + n)
    → cond b (Some i) (first p (suc i) n) ≡ Some j → j < i + suc n
below_go p i n j true r e = let z : i ≡ j = cc in omega arith
below_go p i n j false r e = omega (arith, r e)

pub first_below : (p : ℕ → Bool) (i n j : ℕ) → first p i n ≡ Some j → j < i + n
unfolding first
first_below p i zero j e = let z : ◌≡◌ {A = ℕ} 0 1 = cc in absurd (omega arith)
first_below p i (suc n) j e = below_go p i n j (p i) (first_below p (suc i) n j) e

-- ---- what is found passes the test

true_go : (p : ℕ → Bool) (i n j : ℕ) (b : Bool) → p i ≡ b → (first p (suc i) n ≡ Some j → p j ≡ true)
    → cond b (Some i) (first p (suc i) n) ≡ Some j → p j ≡ true
true_go p i n j true q r e = let z : i ≡ j = cc in rw (← z) q
true_go p i n j false q r e = r e

pub first-true : (p : ℕ → Bool) (i n j : ℕ) → first p i n ≡ Some j → p j ≡ true
unfolding first
first-true p i zero j e = let z : ◌≡◌ {A = ℕ} 0 1 = cc in absurd (omega arith)
first-true p i (suc n) j e = true_go p i n j (p i) refl (first-true p (suc i) n j) e

-- ---- no number of the run before it does; where nothing is found, none of the run does

-- k is before what is found
abbrev pub Before : ℕ → Option ℕ → Type 0
Before k (Some j) = k < j
Before k None = Unit {0}

before_go : (p : ℕ → Bool) (i n k : ℕ) (b : Bool) → p i ≡ b → i ≤ k
    → (suc i ≤ k → Before k (first p (suc i) n) → p k ≡ false)
    → Before k (cond b (Some i) (first p (suc i) n)) → p k ≡ false
before_go p i n k true q l r h = absurd (omega arith)
before_go p i n k false q l r h =
    ⊎_elim (λ e. rw (← e) q) (λ m. r (omega arith) h) (eq-or-lt_of_le l)

pub first-before : (p : ℕ → Bool) (i n k : ℕ) → i ≤ k → k < i + n → Before k (first p i n) → p k ≡ false
unfolding first
first-before p i zero k l u h = absurd (omega arith)
first-before p i (suc n) k l u h = before_go p i n k (p i) refl l (λ m. first-before p (suc i) n k m (omega arith)) h

-- ---- where no number of the run passes, nothing is found

none_go : (p : ℕ → Bool) (i n : ℕ) (b : Bool) → b ≡ false → first p (suc i) n ≡ None
    → cond b (Some i) (first p (suc i) n) ≡ None
none_go p i n b q r = rw q r

pub first-none : (p : ℕ → Bool) (i n : ℕ) → ((k : ℕ) → i ≤ k → k < i + n → p k ≡ false) → first p i n ≡ None
unfolding first
first-none p i zero h = refl
first-none p i (suc n) h =
    none_go p i n (p i) (h i (omega arith) (omega arith)) (first-none p (suc i) n (λ k l u. h k (omega arith) (omega arith)))
