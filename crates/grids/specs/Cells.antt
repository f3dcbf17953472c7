-- The four SOS grids: the cell by L2's row class, 1 to 9, its measure M and its aspect S. No S printed means S1.
use mathlib.Core.{List.List, List.[], List.◌∷◌, Bool.cond, Bool.◌&&◌}
use Rattle.std.specs.Prelude.{ℕ, ◌+◌, ◌-◌, ◌*◌, ◌/◌, ◌%◌, get_or}
use Rattle.kinds.specs.Ranges.{one_to, is_grid}

abbrev pub class_count : ℕ  -- there are nine row classes
class_count = 9

abbrev pub NA : ℕ  -- a cell that gives nothing
NA = 0

-- a cell as a number
infixl 70 S◌M◌
abbrev pub S◌M◌ : ℕ → ℕ → ℕ
S s M m = 10 * s + m

-- a line of the paper's table: its columns are the classes 1,2; 3,5,6; 4; 7,8; 9
abbrev pub line : ℕ → ℕ → ℕ → ℕ → ℕ → List ℕ
line a b c d e = a ∷ a ∷ b ∷ c ∷ b ∷ b ∷ d ∷ d ∷ e ∷ []

-- absolute block, rear end; absolute block, head on; automatic, signal ON, head on; automatic, signal OFF, rear end
abbrev pub grids : List (List ℕ)
grids =
    line (S 1 M 5) (S 2 M 2) NA NA (S 2 M 2)
    ∷ line (S 1 M 6) (S 2 M 4) NA NA (S 2 M 4)
    ∷ line (S 1 M 6) (S 1 M 4) (S 1 M 4) (S 2 M 4) (S 1 M 4)
    ∷ line (S 1 M 5) (S 3 M 2) (S 3 M 2) (S 2 M 3) (S 3 M 2)
    ∷ []

-- the cell of a grid and a row class; NA where one is out of range
unfoldable pub cell_of : ℕ → ℕ → ℕ
cell_of grid class = cond (is_grid grid && one_to class_count class) (get_or (get_or grids (grid - 1) []) (class - 1) NA) NA

-- the M of a cell
abbrev pub measure_of : ℕ → ℕ
measure_of cell = cell % 10

-- the S of a cell
abbrev pub aspect_of : ℕ → ℕ
aspect_of cell = cell / 10
