-- Which transitions a list has: those that pass a test, and a test that all pass.
use mathlib.Core.Path.{◌≡◌, refl, ap, ◌∙◌, sym}
use mathlib.Core.Bool.{Bool, true, false, cond, ◌&&◌, false≢true}
use mathlib.Core.List.Memᴰ
use mathlib.Core.List.{List, [], ◌∷◌, Memᴰ}
use mathlib.Core.Logic.{⊎_elim, ◌⊎◌}
use Prim.Native.Nat.{◌≤◌, ◌<◌}
use native.Mathlib.Omega.{arith}
use lib.ListN.{length}
use Rattle.transitions.specs.Table.{Transition, those}
use Rattle.numbers.proofs.Logic.{both}

module _ (p : Transition → Bool) (a : Transition) where
  -- one of those that pass is in the list, and passes
  pub of-those : (xs : List Transition) → Memᴰ a (those p xs) → Memᴰ a xs × (p a ≡ true)
  of-those [] h = absurd (Memᴰ.not-nil h)
  of-those (x ∷ xs) h = go (p x) refl h (of-those xs)
    where
      go : (b : Bool) → p x ≡ b → Memᴰ a (cond b (x ∷ those p xs) (those p xs)) → (Memᴰ a (those p xs) → Memᴰ a xs × (p a ≡ true)) → Memᴰ a (x ∷ xs) × (p a ≡ true)
      go true e k f = ⊎_elim (λ q. (Memᴰ.head q, ap p q ∙ e)) (λ r. (Memᴰ.tail (f r).0, (f r).1)) (Memᴰ.cases_cons k)
      go false e k f = (Memᴰ.tail (f k).0, (f k).1)

  -- what is in the list and passes is one of those
  pub in_those : (xs : List Transition) → Memᴰ a xs → p a ≡ true → Memᴰ a (those p xs)
  in_those [] h e = absurd (Memᴰ.not-nil h)
  in_those (x ∷ xs) h e = go (p x) refl (Memᴰ.cases_cons h) (λ k. in_those xs k e)
    where
      go : (b : Bool) → p x ≡ b → (a ≡ x) ⊎ Memᴰ a xs → (Memᴰ a xs → Memᴰ a (those p xs)) → Memᴰ a (cond b (x ∷ those p xs) (those p xs))
      go true q s f = ⊎_elim (λ r. Memᴰ.head r) (λ r. Memᴰ.tail (f r)) s
      go false q s f = ⊎_elim (λ r. absurd (false≢true (sym q ∙ sym (ap p r) ∙ e))) f s

-- as many pass, or more, where all that pass one test pass another; and no more than there are
pub more_pass : (p q : Transition → Bool) → ((a : Transition) → p a ≡ true → q a ≡ true) → (xs : List Transition) → length (those p xs) ≤ length (those q xs)
more_pass p q f [] = omega arith
more_pass p q f (x ∷ xs) = go (p x) (q x) (f x) (more_pass p q f xs)
  where
    go : (b c : Bool) → (b ≡ true → c ≡ true) → length (those p xs) ≤ length (those q xs) → length (cond b (x ∷ those p xs) (those p xs)) ≤ length (cond c (x ∷ those q xs) (those q xs))
    go true true e h = omega arith
    go true false e h = absurd (false≢true (e refl))
    go false true e h = omega arith
    go false false e h = h

pub no_more : (p : Transition → Bool) (xs : List Transition) → length (those p xs) ≤ length xs
no_more p [] = omega arith
no_more p (x ∷ xs) = go (p x) (no_more p xs)
  where
    go : (b : Bool) → length (those p xs) ≤ length xs → length (cond b (x ∷ those p xs) (those p xs)) ≤ length (x ∷ xs)
    go true h = omega arith
    go false h = omega arith

-- a list that has one is not empty, and one that has none is
pub some : {a : Transition} (xs : List Transition) → Memᴰ a xs → 0 < length xs
some [] h = absurd (Memᴰ.not-nil h)
some (x ∷ xs) h = omega arith

pub none : (xs : List Transition) → ((a : Transition) → Memᴰ a xs → ⊥) → xs ≡ []
none [] h = refl
none (x ∷ xs) h = absurd (h x (Memᴰ.head refl))

-- a list that has two with different targets is longer than one
pub two_in : {a b : Transition} (ws : List Transition) → Memᴰ a ws → Memᴰ b ws → (a.target ≡ b.target → ⊥) → 1 < length ws
two_in [] h k n = absurd (Memᴰ.not-nil h)
two_in (x ∷ []) h k n = absurd (n (ap (λ (t : Transition). t.target) (Memᴰ.eq_of_singleton h ∙ sym (Memᴰ.eq_of_singleton k))))
two_in (x ∷ (y ∷ ws)) h k n = omega arith

pub empty : (xs : List Transition) → length xs ≤ 0 → xs ≡ []
empty [] h = refl
empty (x ∷ xs) h = absurd (omega arith)

-- do all of a list pass a test? And what that says of each
module _ {A : Type 0} (p : A → Bool) where
  abbrev pub all : List A → Bool
  all [] = true
  all (x ∷ xs) = p x && all xs

  pub each : (xs : List A) → all xs ≡ true → (a : A) → Memᴰ a xs → p a ≡ true
  each [] t a h = absurd (Memᴰ.not-nil h)
  each (x ∷ xs) t a h =
      ⊎_elim (λ e. ap p e ∙ (both (p x) (all xs) t).0)
      (each xs (both (p x) (all xs) t).1 a) (Memᴰ.cases_cons h)
