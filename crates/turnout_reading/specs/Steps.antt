-- A step of a turnout read: a turnout of two numbers.
use Rattle.std.specs.Prelude.{ℕ, ◌/◌, ◌%◌, List, [], ◌∷◌}

-- the bytes of a turnout with this speed, and with distance and release distance as one number, of which the release distance is the 12 lowest digits
abbrev pub digits : ℕ → ℕ → List ℕ
digits speed distances =
    speed ∷ distances / 4096 / 256 ∷ distances / 4096 % 256 ∷ distances % 4096 / 256 ∷ distances % 4096 % 256 ∷ []
