-- The least of a number of each transition in a list: it is below each, is that of one of them, and takes one more at the end.
use mathlib.Core.Path.{◌≡◌, refl, ap, ◌∙◌}
use mathlib.Core.List.Memᴰ
use mathlib.Core.List.{List, [], ◌∷◌, ◌++◌, map, foldr, Memᴰ}
use mathlib.Core.Logic.{⊎_elim, ◌⊎◌, inl, inr}
use Prim.Native.Nat.{ℕ, ◌≤◌, ◌<◌, min}
use native.Mathlib.Nat.{min_comm, min-eq_left}
use native.Mathlib.Omega.{arith}
use lib.ListN.{length}
use Rattle.numbers.proofs.Logic.{lt_or_le}
use Rattle.transitions.specs.Table.{Transition}
use Rattle.modes.specs.Next.{least}

min_assoc : (a b c : ℕ) → min a (min b c) ≡ min (min a b) c
min_assoc a b c = omega arith

module _ (f : Transition → ℕ) where
  below_base : (b : ℕ) (xs : List Transition) → foldr min b (map f xs) ≤ b
  below_base b [] = omega arith
  below_base b (x ∷ xs) = omega (arith, below_base b xs)

  below_each : (b : ℕ) (xs : List Transition) (a : Transition) → Memᴰ a xs → foldr min b (map f xs) ≤ f a
  below_each b [] a h = absurd (Memᴰ.not-nil h)
  below_each b (x ∷ xs) a h = ⊎_elim (λ e. omega (arith, ap f e)) (λ k. omega (arith, below_each b xs a k)) (Memᴰ.cases_cons h)

  pub least_below : (xs : List Transition) (a : Transition) → Memᴰ a xs → least (map f xs) ≤ f a
  least_below [] a h = absurd (Memᴰ.not-nil h)
  least_below (x ∷ xs) a h = ⊎_elim (λ e. omega (arith, ap f e, below_base (f x) xs)) (λ k. below_each (f x) xs a k) (Memᴰ.cases_cons h)

  reached : (b : ℕ) (xs : List Transition) → (foldr min b (map f xs) ≡ b) ⊎ ((a : Transition) × Memᴰ a xs × (foldr min b (map f xs) ≡ f a))
  reached b [] = inl refl
  reached b (x ∷ xs) = go (foldr min b (map f xs)) (reached b xs)
    where
      go : (n : ℕ) → (n ≡ b) ⊎ ((a : Transition) × Memᴰ a xs × (n ≡ f a)) → (min (f x) n ≡ b) ⊎ ((a : Transition) × Memᴰ a (x ∷ xs) × (min (f x) n ≡ f a))
      go n ih =
          ⊎_elim (λ h. inr (x, Memᴰ.head refl, min-eq_left (omega arith)))
          (λ h. ⊎_elim (λ e. inl (omega arith)) (λ w. inr (w.0, Memᴰ.tail w.1, omega (arith, w.2))) ih) (lt_or_le (f x) n)

  pub least-one : (xs : List Transition) → 0 < length xs → (a : Transition) × Memᴰ a xs × (least (map f xs) ≡ f a)
  least-one [] h = absurd (omega arith)
  least-one (x ∷ xs) h = ⊎_elim (λ e. (x, Memᴰ.head refl, e)) (λ w. (w.0, Memᴰ.tail w.1, w.2)) (reached (f x) xs)

  -- one more at the end
  more : (b : ℕ) (xs : List Transition) (a : Transition) → foldr min b (map f (xs ++ (a ∷ []))) ≡ min (foldr min b (map f xs)) (f a)
  more b [] a = min_comm (f a) b
  more b (x ∷ xs) a = ap (min (f x)) (more b xs a) ∙ min_assoc (f x) (foldr min b (map f xs)) (f a)

  pub least_more : (x : Transition) (xs : List Transition) (a : Transition) → least (map f (x ∷ (xs ++ (a ∷ [])))) ≡ min (least (map f (x ∷ xs))) (f a)
  least_more x xs a = more (f x) xs a
