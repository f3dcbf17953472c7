-- The condition flags (document 01, "Modes").
use mathlib.Core.{Bool.Bool, Bool.false, Bool.not, Bool.◌||◌, List.List, List.[], List.◌∷◌}
use Rattle.std.specs.Prelude.{ℕ, ◌-◌}
use lib.{Dec.eqb, Dec.ltb, ListN.length, ListN.get_or}
use Rattle.transitions.specs.Table.{condition_count}

abbrev pub flag_count : ℕ  -- each condition has a flag of one byte
flag_count = condition_count

-- is condition n set? Condition n is byte n of the flags, counted from 1
abbrev pub is_set : List ℕ → ℕ → Bool
is_set flags n = eqb (get_or flags (n - 1) 0) 1

-- is any of these conditions set?
abbrev pub any_set : List ℕ → List ℕ → Bool
any_set flags [] = false
any_set flags (n ∷ ns) = is_set flags n || any_set flags ns

-- ground of refusal: more or fewer flags than there are conditions
abbrev pub wrong_count : List ℕ → Bool
wrong_count flags = not (eqb (length flags) flag_count)

-- ground of refusal: some flag is neither 0 nor 1
abbrev pub flag_above_one : List ℕ → Bool
flag_above_one [] = false
flag_above_one (f ∷ fs) = ltb 1 f || flag_above_one fs
