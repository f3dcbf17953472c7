-- What holds at each cell of the four grids: one test over the whole table, and the rule that it gives at each cell.
use Prim.Native.Nat.{ℕ, zero, suc, ◌-◌}
use mathlib.Core.Bool.{Bool, true, false, cond, ◌&&◌, ◌||◌, and-eq-true_iff}
use mathlib.Core.List.{List, [], ◌∷◌}
use mathlib.Core.Path.{◌≡◌, refl}
use lib.Dec.{eqb, leb}
use lib.ListN.{get_or}
use Rattle.kinds.specs.Ranges.{one_to, is_grid}
use Rattle.grids.specs.Cells.{NA, grids, cell_of, class_count, measure_of, aspect_of}

-- every element of a list passes a test
abbrev every : {A : Type 0} → (A → Bool) → List A → Bool
every p [] = true
every p (x ∷ xs) = p x && every p xs

-- so does any element, and what stands past the end where that does
every_at : {A : Type 0} (p : A → Bool) (d : A) (xs : List A) → p d ≡ true → every p xs ≡ true → (i : ℕ) → p (get_or xs i d) ≡ true
every_at p d [] hd h i = hd
every_at p d (x ∷ xs) hd h zero = ((and-eq-true_iff (p x) (every p xs)).0 h).0
every_at p d (x ∷ xs) hd h (suc i) = every_at p d xs hd ((and-eq-true_iff (p x) (every p xs)).0 h).1 i

-- NA, or a measure of M2 to M6 and an aspect of S1 to S3
abbrev pub good_cell : ℕ → Bool
good_cell c = eqb c NA || (leb 2 (measure_of c) && leb (measure_of c) 6 && leb 1 (aspect_of c) && leb (aspect_of c) 3)

-- the test over all 36 cells
all_good : every (every good_cell) grids ≡ true
all_good = refl

-- each cell is NA, or M2 to M6 with S1 to S3
pub cell_good : (grid class : ℕ) → good_cell (cell_of grid class) ≡ true
unfolding cell_of
cell_good grid class = go (is_grid grid && one_to class_count class)
  where
    at : good_cell (get_or (get_or grids (grid - 1) []) (class - 1) NA) ≡ true
    at = every_at good_cell NA (get_or grids (grid - 1) []) refl (every_at (every good_cell) [] grids refl all_good (grid - 1)) (class - 1)

    go : (b : Bool) → good_cell (cond b (get_or (get_or grids (grid - 1) []) (class - 1) NA) NA) ≡ true
    go true = at
    go false = refl
