-- One row changed, or one order: what holds of each, and of every two, where it holds of the changed one and of the others.
use mathlib.Core.Path.{◌≡◌, refl}
use mathlib.Core.List.{List}
use mathlib.Core.Logic.{by_cases}
use Prim.Native.Nat.{ℕ, ◌<◌}
use native.Mathlib.Decide.{ℕ_discrete}
use lib.ListN.{length, get_or, set}
use lib.Seq.{get_or-set_same, get_or-set_other}
use Rattle.trains.specs.declared.record.Train.{Train}
use Rattle.rules.specs.View.{View}
use Rattle.order.specs.Sound.{NoTwo}

-- what holds of the element set, and of every other as it was, holds of every element
pub set_each : {A : Type 0} (P : ℕ → A → Type 0) (d : A) (l : List A) (i : ℕ) (a : A) → i < length l → P i a
    → ((k : ℕ) → (k ≡ i → ⊥) → P k (get_or l k d)) → (k : ℕ) → P k (get_or (set l i a) k d)
set_each P d l i a h this others k =
    by_cases (ℕ_discrete k i) (λ e. rw e (rw (get_or-set_same l i a d h) this)) (λ n. rw (get_or-set_other l i k a d n) (others k n))

-- no two that count share something, where the element set shares it with no other
pub no_two_set : {A : Type 0} (Counts : A → Type 0) (Share : A → A → Type 0) → ((a b : A) → Share a b → Share b a)
    → (d : A) (l : List A) (i : ℕ) (u : A) → i < length l
    → ((k : ℕ) → (k ≡ i → ⊥) → Counts u → Counts (get_or l k d) → Share u (get_or l k d) → ⊥)
    → NoTwo Counts Share (λ k. get_or l k d) → NoTwo Counts Share (λ k. get_or (set l i u) k d)
no_two_set {A} Counts Share turned d l i u h alone apart j k =
    set_each (λ (j : ℕ) (a : A). Counts a → Counts (get_or (set l i u) k d) → Share a (get_or (set l i u) k d) → j ≡ k) d l i u h
    (set_each (λ (k : ℕ) (b : A). Counts u → Counts b → Share u b → i ≡ k) d l i u h (λ x y s. refl) (λ k n x y s. absurd (alone k n x y s)) k)
    (λ j n.
    set_each (λ (k : ℕ) (b : A). Counts (get_or l j d) → Counts b → Share (get_or l j d) b → j ≡ k) d l i u h
    (λ x y s. absurd (alone j n y x (turned _ _ s))) (λ k m. apart j k) k)
    j

-- the view with one row changed, and a book
abbrev pub row_set : View → ℕ → Train → List ℕ → View
row_set v i u book = record { rows = set v.rows i u; book = book }
