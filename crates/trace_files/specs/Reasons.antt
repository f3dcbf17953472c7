-- Which byte of an entry is out of range.
use mathlib.Core.{Bool.cond, List.List}
use Rattle.std.specs.Prelude.{ℕ, zero, suc, ◌+◌, ltb}
use Rattle.numbers.specs.Numbers.{number_at}
use Rattle.modes.specs.Flags.{flag_count}
use Rattle.traces.specs.Entry.{flags_at}

-- the first of so many bytes from one on that is above 1; where there is none, the one behind them
unfoldable pub above_one_from : ℕ → List ℕ → ℕ → ℕ
above_one_from zero e at = at
above_one_from (suc k) e at = cond (ltb 1 (number_at 1 e at)) at (above_one_from k e (at + 1))

-- where the first flag of an entry stands that is neither 0 nor 1; where there is none, behind the flags
unfoldable pub bad_flag : List ℕ → ℕ
bad_flag e = above_one_from flag_count e flags_at
