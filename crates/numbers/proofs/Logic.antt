-- What two tests say of each, and which of two numbers is the lower.
use mathlib.Core.Path.{◌≡◌, refl, sym}
use mathlib.Core.Bool.{Bool, true, false, ◌&&◌, ◌||◌, false≢true}
use mathlib.Core.Logic.{◌⊎◌, inl, inr}
use Prim.Native.Nat.{ℕ, ◌≤◌, ◌<◌}
use native.Mathlib.Decide.{dec_lt}
use native.Mathlib.Omega.{arith}

-- where two tests both pass, each does
pub both : (s t : Bool) → (s && t) ≡ true → (s ≡ true) × (t ≡ true)
both true t e = (refl, e)
both false t e = (e, absurd (false≢true e))

-- where neither passes, each fails
pub neither : (s t : Bool) → (s || t) ≡ false → (s ≡ false) × (t ≡ false)
neither true t e = (e, absurd (false≢true (sym e)))
neither false t e = (refl, e)

pub lt_or_le : (a b : ℕ) → (a < b) ⊎ (b ≤ a)
lt_or_le a b = of (dec_lt a b)
  where
    of : Dec (a < b) → (a < b) ⊎ (b ≤ a)
    of (yes h) = inl h
    of (no h) = inr (omega arith)
