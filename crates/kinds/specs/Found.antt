-- What a search of numbered things finds.
use Rattle.std.specs.Prelude.{Bool, cond, ℕ, zero, suc, Option, None, Some}

-- the first of i, i + 1, .. (n numbers) at which p is true
unfoldable pub first : (p : ℕ → Bool) → ℕ → ℕ → Option ℕ
first p i zero = None
first p i (suc n) = cond (p i) (Some i) (first p (suc i) n)
