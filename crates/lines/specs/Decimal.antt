-- A number as decimal text: its digits as bytes, the highest first, with no zero in front; 0 is one digit.
use mathlib.Core.{Bool.cond, List.List, List.[], List.◌∷◌, List.◌++◌}
use Rattle.std.specs.Prelude.{ℕ, zero, suc, ◌+◌, ◌-◌, ◌*◌, ◌/◌, ◌%◌, ltb}

-- the byte of a digit, 0 to 9
abbrev pub digit_byte : ℕ → ℕ
digit_byte d = 48 + d

-- the digits of n, where k are enough: those above the last, if there are any, and the last
unfoldable pub digits_in : ℕ → ℕ → List ℕ
digits_in zero n = []
digits_in (suc k) n = cond (ltb n 10) [] (digits_in k (n / 10)) ++ (digit_byte (n % 10) ∷ [])

-- n as decimal text; n + 1 digits are always enough
unfoldable pub decimal : ℕ → List ℕ
decimal n = digits_in (suc n) n

-- the number that decimal text stands for, where v stands for what was read before it
unfoldable pub read_on : ℕ → List ℕ → ℕ
read_on v [] = v
read_on v (b ∷ s) = read_on (v * 10 + (b - 48)) s

-- the number that decimal text stands for
abbrev pub value_of : List ℕ → ℕ
value_of s = read_on 0 s
