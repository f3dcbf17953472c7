-- What a chain of grounds tells.
use mathlib.Core.Path.{◌≡◌, refl, sym, ap, ◌∙◌}
use mathlib.Core.Bool.{Bool, true, false, not}
use Prim.Native.Nat.{ℕ, zero, suc, ◌≤◌, ◌<◌}
use native.Mathlib.Omega.{arith}
use borrow.Author.Tests.{lt-ltb, le-ltb, eq-eqb, ne_eqb}
use lib.Dec.{ltb, eqb}
use Rattle.framing.specs.Refusals.{none, refuse, or_else, unless_refused}
use Rattle.framing.specs.Refusals.{Refusal}

-- what an answer gives where there is no refusal, and where there is one
pub unless-none : {A : Type 0} (n : ℕ) (a b : A) → n ≡ 0 → unless_refused n a b ≡ a
unfolding unless_refused
unless-none zero a b e = refl
unless-none (suc n) a b e = absurd (omega arith)

pub unless-some : {A : Type 0} (n : ℕ) (a b : A) → (n ≡ 0 → ⊥) → unless_refused n a b ≡ b
unfolding unless_refused
unless-some zero a b h = absurd (h refl)
unless-some (suc n) a b h = refl

pub same_number : {a b : Refusal} → a ≡ b → a.number ≡ b.number
same_number e = ap (λ (r : Refusal). r.number) e

-- a ground that holds ends the chain, and one that does not hands on
pub or_else-stop : (a b : Refusal) → (a.number ≡ 0 → ⊥) → a ≡ or_else a b
unfolding or_else
or_else-stop a b h = sym (unless-some _ _ _ h)

pub or_else_go : (a b : Refusal) → a.number ≡ 0 → or_else a b ≡ b
unfolding or_else
or_else_go a b e = unless-none _ _ _ e

-- the chain's number: where it is 0, its first ground does not hold, nor what follows
chosen : (n : ℕ) (a b : Refusal) → a.number ≡ n → (unless_refused n b a).number ≡ 0 → (n ≡ 0) × (b.number ≡ 0)
unfolding unless_refused
chosen zero a b e z = (refl, z)
chosen (suc n) a b e z = absurd (omega arith)

pub or_else-first : (a b : Refusal) → (or_else a b).number ≡ 0 → a.number ≡ 0
unfolding or_else
or_else-first a b z = (chosen a.number a b refl z).0

pub or_else_then : (a b : Refusal) → (or_else a b).number ≡ 0 → b.number ≡ 0
unfolding or_else
or_else_then a b z = (chosen a.number a b refl z).1

-- a chain of two, and what follows
pub or_else_assoc : (a b c : Refusal) → or_else (or_else a b) c ≡ or_else a (or_else b c)
unfolding or_else unless_refused
or_else_assoc a b c = of a.number refl
  where
    of : (n : ℕ) → a.number ≡ n → unless_refused (unless_refused n b a).number c (unless_refused n b a) ≡ unless_refused n (unless_refused b.number c b) a
    of zero e = refl
    of (suc n) e = rw e

-- what holds of a ground where it holds, and of what follows where it does not, holds of the chain
pub along : (P : Refusal → Type 0) (a b : Refusal) → ((a.number ≡ 0 → ⊥) → P a) → (a.number ≡ 0 → P b) → P (or_else a b)
unfolding or_else unless_refused
along P a b ha hb = of a.number refl
  where
    of : (n : ℕ) → a.number ≡ n → P (unless_refused n b a)
    of zero e = hb e
    of (suc n) e = ha (λ z. omega arith)

pub tested : (P : Refusal → Type 0) (t : Bool) (g : Refusal) → (t ≡ true → P g) → (t ≡ false → P none) → P (refuse t g)
unfolding refuse
tested P true g holds fails = holds refl
tested P false g holds fails = fails refl

pub tried : (P : Refusal → Type 0) (t : Bool) (n p : ℕ) (rest : Refusal)
    → (t ≡ true → P (record { number = suc n; place = p })) → (t ≡ false → P rest) → P (or_else (refuse t (record { number = suc n; place = p })) rest)
unfolding or_else refuse unless_refused
tried P true n p rest holds fails = holds refl
tried P false n p rest holds fails = fails refl

-- no refusal: the test was false
pub refuse-none : (t : Bool) (n p : ℕ) → (refuse t (record { number = suc n; place = p })).number ≡ 0 → t ≡ false
unfolding refuse
refuse-none true n p e = absurd (omega arith)
refuse-none false n p e = refl

-- along a chain: a ground that does not hold hands on, and one that holds is the answer
pub next : (a rest : Refusal) {x : Refusal} → a.number ≡ 0 → x ≡ rest → x ≡ or_else a rest
next a rest z e = e ∙ sym (or_else_go a rest z)

pub ends : (a rest : Refusal) {x : Refusal} → x ≡ a → (x.number ≡ 0 → ⊥) → x ≡ or_else a rest
ends a rest e ne = e ∙ or_else-stop a rest (λ z. ne (same_number e ∙ z))

-- the same of a ground whose test is that a lies below b, in the midst of a chain and at its end
module _ (a b : ℕ) where
  pub not_below : (g rest : Refusal) {x : Refusal} → b ≤ a → x ≡ rest → x ≡ or_else (refuse (ltb a b) g) rest
  unfolding or_else refuse unless_refused
  not_below g rest h e = rw (le-ltb a b h) e

  pub below : {n p : ℕ} (rest : Refusal) → a < b
      → ◌≡◌ {A = Refusal} (record { number = suc n; place = p }) (or_else (refuse (ltb a b) (record { number = suc n; place = p })) rest)
  unfolding or_else refuse unless_refused
  below rest h = rw (lt-ltb a b h)

  pub last_not_below : (g : Refusal) → b ≤ a → none ≡ refuse (ltb a b) g
  unfolding refuse
  last_not_below g h = rw (le-ltb a b h)

  pub last_below : (g : Refusal) → a < b → g ≡ refuse (ltb a b) g
  unfolding refuse
  last_below g h = rw (lt-ltb a b h)

-- and of one whose test is that two numbers differ
module _ (a b : ℕ) where
  pub same : (g : Refusal) → a ≡ b → refuse (not (eqb a b)) g ≡ none
  unfolding refuse
  same g e = rw (eq-eqb a b e)

  pub differ : {n p : ℕ} (rest : Refusal) → (a ≡ b → ⊥)
      → ◌≡◌ {A = Refusal} (record { number = suc n; place = p }) (or_else (refuse (not (eqb a b)) (record { number = suc n; place = p })) rest)
  unfolding or_else refuse unless_refused
  differ rest ne = rw (ne_eqb a b ne)

  pub last_differ : (g : Refusal) → (a ≡ b → ⊥) → g ≡ refuse (not (eqb a b)) g
  unfolding refuse
  last_differ g ne = rw (ne_eqb a b ne)

-- a ground that does not hold is no refusal, and so is a chain of which the last one does not hold either
abbrev pub Clear : Refusal → Type 0
Clear r = r.number ≡ 0 → none ≡ r

pub clear-or_else : (a b : Refusal) → Clear b → Clear (or_else a b)
clear-or_else a b h = along Clear a b (λ ne z. absurd (ne z)) (λ z. h)
