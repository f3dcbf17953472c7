-- Numbers that start at a byte and take whole bytes, high byte first: the fields at 8 times the byte's index.
use Rattle.std.specs.Prelude.{ℕ, ◌*◌}
use mathlib.Core.{List.List, Bool.Bool, Bool.cond}
use Rattle.numbers.specs.Fields.{field, put}

-- the number of n bytes at byte i; a byte past the end reads as 0
abbrev pub number_at : ℕ → List ℕ → ℕ → ℕ
number_at n s i = field s (8 * i) (8 * n)

-- the list with the n bytes at byte i made the low n bytes of x; a byte past the end is dropped
abbrev pub put_number : ℕ → List ℕ → ℕ → ℕ → List ℕ
put_number n s i x = put s (8 * i) (8 * n) x

-- a test as a number: 1 where it holds, 0 where it does not
abbrev pub one_if : Bool → ℕ
one_if b = cond b 1 0
