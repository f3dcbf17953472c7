-- The search for a bit that is set.
use Rattle.std.specs.Prelude.{ℕ, zero, suc, ◌+◌, ◌≤◌, ◌<◌, ◌≡◌, eqb}
use mathlib.Core.{List.List, Bool.cond}
use Rattle.numbers.specs.Fields.{bit_at}

-- the first of the w bits from position p on that is 1, or the position behind them where none is
unfoldable pub first_set : List ℕ → ℕ → ℕ → ℕ
first_set s p zero = p
first_set s p (suc w) = cond (eqb (bit_at s p) 1) p (first_set s (suc p) w)

-- what it finds where one is set: bit q of the w bits from position p on is 1, and each before it is 0
pub record FirstOf (s : List ℕ) (p w q : ℕ) : Type 0 where
  pub from : p ≤ q
  pub before : q < p + w
  pub is_set : bit_at s q ≡ 1
  pub zeros : (k : ℕ) → p ≤ k → k < q → bit_at s k ≡ 0
