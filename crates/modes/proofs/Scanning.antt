-- A walk over the flags, and one over the conditions of a transition.
use mathlib.Core.Path.{◌≡◌, refl, ap}
use mathlib.Core.Bool.{true, false, ◌||◌}
use mathlib.Core.List.{List, [], ◌∷◌}
use Prim.Native.Nat.{ℕ, ◌+◌, ◌-◌, ◌<◌}
use native.Mathlib.Numerals.{add-one}
use lib.Dec.{ltb}
use lib.ListN.{length, get_or, drop}
use lib.Seq.{drop-cons}
use Rattle.std.specs.List.{list_any}
use borrow.Author.Tests.{eq-eqb, ne_eqb}
use Rattle.transitions.specs.Held.{before_zero}
use Rattle.modes.specs.Flags.{any_set, flag_above_one}

-- some flag is above 1
pub any_above : (fs : List ℕ) → list_any (λ f. ltb 1 f) fs ≡ flag_above_one fs
any_above [] = refl
any_above (f ∷ fs) = ap (λ b. ltb 1 f || b) (any_above fs)

-- the byte at hand is a zero, names a condition that is set, or one that is not
module _ (fs bytes : List ℕ) (k : ℕ) where
  pub any_zero : k < length bytes → get_or bytes k 0 ≡ 0 → any_set fs (before_zero (drop k bytes)) ≡ false
  any_zero h z = rw (drop-cons bytes k 0 h, eq-eqb (get_or bytes k 0) 0 z)

  pub any_here : k < length bytes → (get_or bytes k 0 ≡ 0 → ⊥) → get_or fs (get_or bytes k 0 - 1) 0 ≡ 1 → any_set fs (before_zero (drop k bytes)) ≡ true
  any_here h z s = rw (drop-cons bytes k 0 h, ne_eqb (get_or bytes k 0) 0 z, eq-eqb (get_or fs (get_or bytes k 0 - 1) 0) 1 s)

  pub any_next : k < length bytes → (get_or bytes k 0 ≡ 0 → ⊥) → (get_or fs (get_or bytes k 0 - 1) 0 ≡ 1 → ⊥) → any_set fs (before_zero (drop k bytes)) ≡ any_set fs (before_zero (drop (k + 1) bytes))
  any_next h z s = rw (drop-cons bytes k 0 h, ne_eqb (get_or bytes k 0) 0 z, ne_eqb (get_or fs (get_or bytes k 0 - 1) 0) 1 s, add-one)
