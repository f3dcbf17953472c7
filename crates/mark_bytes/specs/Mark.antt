-- Our two-byte mark (document 01, "Recordings"; document 02, T-12).
use mathlib.Core.{Bool.Bool, List.List}
use Rattle.std.specs.Prelude.{ℕ, ◌+◌, ◌*◌, eqb}
use Rattle.numbers.specs.Numbers.{number_at}

abbrev pub mark : ℕ  -- the mark 4B 56
mark = 75 * 256 + 86

-- do these bytes begin with it? Fewer than two do not
unfoldable pub is_marked : List ℕ → Bool
is_marked s = eqb (number_at 2 s 0) mark
