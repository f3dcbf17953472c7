-- A list of bytes as a list of bits, and the w-bit field at a bit position, for any width w. Bits run from the top bit of the first
-- byte. Past the end of the list every bit reads as 0, and putting one there does nothing.
use Rattle.std.specs.Prelude.{ℕ, zero, suc, ◌+◌, ◌-◌, ◌*◌, ◌/◌, ◌%◌, ◌^◌, List, get_or, set}

-- the bit at position p, 0 or 1
unfoldable pub bit_at : List ℕ → ℕ → ℕ
bit_at s p = get_or s (p / 8) 0 / 2 ^ (7 - p % 8) % 2

-- the number whose w binary digits are the bits from position p on, the first of them the highest
unfoldable pub field : List ℕ → ℕ → ℕ → ℕ
field s p zero = 0
field s p (suc w) = field s p w * 2 + bit_at s (p + w)

-- the number x with its digit of weight 2 ^ k made b: what stands above the digit, b, and what stands below it
unfoldable pub with_digit : ℕ → ℕ → ℕ → ℕ
with_digit x k b = (x / 2 ^ k / 2 * 2 + b) * 2 ^ k + x % 2 ^ k

-- the list with the bit at position p made b
unfoldable pub put_bit : List ℕ → ℕ → ℕ → List ℕ
put_bit s p b = set s (p / 8) (with_digit (get_or s (p / 8) 0) (7 - p % 8) b)

-- the list with the w bits from position p on made the w low binary digits of v, the lowest of them last
unfoldable pub put : List ℕ → ℕ → ℕ → ℕ → List ℕ
put s p zero v = s
put s p (suc w) v = put (put_bit s (p + w) (v % 2)) p w (v / 2)
