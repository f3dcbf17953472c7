-- The row classes of the SOS grids: 1 SR, 2 LS, 3 OS, 4 FS, 5 OS+OV, 6 FS+OV, 7 TR, 8 PT, 9 PT+OV.
use mathlib.Core.{Bool.cond, List.List, List.[], List.◌∷◌}
use Rattle.std.specs.Prelude.{ℕ, eqb}
use Rattle.transitions.specs.Names.{SB, SR, LS, FS, OV, OS, TR, PT}

-- a mode and its row class
pub record Row : Type 0 where
  pub mode : ℕ
  pub class : ℕ

infixl 70 ◌is◌
abbrev pub ◌is◌ : ℕ → ℕ → Row
m is c = record { mode = m; class = c }

-- the class beside a mode in a list; 0, no class, where the mode is not there
unfoldable pub among : List Row → ℕ → ℕ
among [] mode = 0
among (r ∷ rs) mode = cond (eqb mode r.mode) r.class (among rs mode)

-- the class of a mode itself
abbrev pub own_classes : List Row
own_classes = SR is 1 ∷ LS is 2 ∷ OS is 3 ∷ FS is 4 ∷ TR is 7 ∷ PT is 8 ∷ []

-- the class of OV, by the mode left for it
abbrev pub override_classes : List Row
override_classes = OS is 5 ∷ SB is 5 ∷ FS is 6 ∷ PT is 9 ∷ []

-- the class of OV left from a mode
abbrev pub class_in_override : ℕ → ℕ
class_in_override left = among override_classes left

-- the row class of a mode, and of a mode left where it is OV; 0 for none
unfoldable pub class_of : ℕ → ℕ → ℕ
class_of mode left = cond (eqb mode OV) (class_in_override left) (among own_classes mode)
