-- The bytes of a number the other way round.
use Rattle.std.specs.Prelude.{ℕ, zero, suc, ◌+◌, ◌*◌, ◌/◌, ◌%◌, ◌^◌}

-- the number of n bytes, high byte first, that are those of x from the lowest on
unfoldable pub turned : ℕ → ℕ → ℕ
turned zero x = 0
turned (suc n) x = x % 256 * 2 ^ (8 * n) + turned n (x / 256)
