-- The transitions between modes (document 000, A1.4), as document 01 writes them.
use mathlib.Core.{Bool.Bool, Bool.cond, List.List, List.[], List.◌∷◌, List.◌++◌, List.map}
use Rattle.std.specs.Prelude.{ℕ, eqb}
use Rattle.transitions.specs.Names.{SB, SR, LS, FS, OV, OS, TR, PT, RV, SH, NL, SF, IS}

-- a transition leaves a mode for a target when any of its conditions is set; priority 1 is the highest
pub record Transition : Type 0 where
  pub leaves : ℕ
  pub target : ℕ
  pub conditions : List ℕ
  pub priority : ℕ

-- `target:conditions/priority` in a line of document 01; the mode left is that of the line
abbrev pub to : ℕ → List ℕ → ℕ → ℕ → Transition
to target conditions priority mode = record { leaves = mode; target = target; conditions = conditions; priority = priority }

-- a line of document 01: the transitions that leave one mode
abbrev pub from : ℕ → List (ℕ → Transition) → List Transition
from mode line = map (λ (t : ℕ → Transition). t mode) line

abbrev pub transition_count : ℕ  -- so many transitions document 01 counts
transition_count = 80

abbrev pub condition_count : ℕ  -- so many conditions there are, numbered from 1
condition_count = 91

-- the thirteen lines of document 01
unfoldable pub table : List Transition
table =
    from SB (to SR (77 ∷ 60 ∷ []) 4 ∷ to LS (61 ∷ []) 3 ∷ to FS (62 ∷ []) 4 ∷ to OV (63 ∷ []) 4 ∷ to OS (64 ∷ []) 4 ∷ to PT (66 ∷ []) 4 ∷ to RV (67 ∷ []) 4 ∷ to SH (68 ∷ 57 ∷ []) 4 ∷ to NL (53 ∷ []) 3 ∷ to SF (5 ∷ []) 2 ∷ to IS (2 ∷ []) 1 ∷ [])
    ++ from SR (to SB (7 ∷ []) 4 ∷ to OS (87 ∷ []) 6 ∷ to RV (45 ∷ []) 5 ∷ to SH (56 ∷ []) 5 ∷ to NL (53 ∷ []) 3 ∷ to SF (5 ∷ []) 2 ∷ to IS (2 ∷ []) 1 ∷ [])
    ++ from LS (to SB (7 ∷ []) 4 ∷ to SR (17 ∷ 23 ∷ 30 ∷ 39 ∷ 40 ∷ 44 ∷ 85 ∷ []) 5 ∷ to OS (90 ∷ []) 5 ∷ to RV (58 ∷ []) 7 ∷ to SH (56 ∷ []) 7 ∷ to NL (53 ∷ []) 3 ∷ to SF (5 ∷ []) 2 ∷ to IS (2 ∷ []) 1 ∷ [])
    ++ from FS (to SB (7 ∷ []) 5 ∷ to SR (17 ∷ 23 ∷ 30 ∷ 39 ∷ 40 ∷ 44 ∷ 85 ∷ []) 6 ∷ to LS (76 ∷ []) 7 ∷ to OV (71 ∷ []) 7 ∷ to OS (90 ∷ []) 9 ∷ to TR (69 ∷ []) 4 ∷ to RV (58 ∷ []) 8 ∷ to SH (56 ∷ []) 8 ∷ to NL (53 ∷ []) 3 ∷ to SF (5 ∷ []) 2 ∷ to IS (2 ∷ []) 1 ∷ [])
    ++ from OV (to SB (7 ∷ []) 4 ∷ to SR (17 ∷ 23 ∷ 30 ∷ 34 ∷ 39 ∷ 40 ∷ 44 ∷ 85 ∷ []) 5 ∷ to FS (74 ∷ []) 7 ∷ to OS (91 ∷ []) 6 ∷ to NL (53 ∷ []) 3 ∷ to SF (5 ∷ []) 2 ∷ to IS (2 ∷ []) 1 ∷ [])
    ++ from OS (to SB (7 ∷ []) 5 ∷ to SR (17 ∷ 23 ∷ 30 ∷ 34 ∷ 39 ∷ 40 ∷ 44 ∷ 85 ∷ 89 ∷ []) 6 ∷ to FS (81 ∷ []) 8 ∷ to OV (71 ∷ []) 7 ∷ to TR (69 ∷ []) 4 ∷ to RV (58 ∷ []) 7 ∷ to SH (56 ∷ []) 7 ∷ to NL (53 ∷ []) 3 ∷ to SF (5 ∷ []) 2 ∷ to IS (2 ∷ []) 1 ∷ [])
    ++ from TR (to PT (59 ∷ []) 3 ∷ to SF (5 ∷ []) 2 ∷ to IS (2 ∷ []) 1 ∷ [])
    ++ from PT (to SB (7 ∷ []) 3 ∷ to SR (17 ∷ 30 ∷ []) 4 ∷ to OV (86 ∷ []) 5 ∷ to RV (58 ∷ []) 5 ∷ to SF (5 ∷ []) 2 ∷ to IS (2 ∷ []) 1 ∷ [])
    ++ from RV (to SB (7 ∷ 35 ∷ []) 4 ∷ to NL (53 ∷ []) 3 ∷ to SF (5 ∷ []) 2 ∷ to IS (2 ∷ []) 1 ∷ [])
    ++ from SH (to SB (7 ∷ 56 ∷ []) 4 ∷ to NL (53 ∷ []) 3 ∷ to SF (5 ∷ []) 2 ∷ to IS (2 ∷ []) 1 ∷ [])
    ++ from NL (to SB (82 ∷ []) 3 ∷ to SF (51 ∷ []) 2 ∷ to IS (2 ∷ []) 1 ∷ [])
    ++ from SF (to SB (79 ∷ []) 3 ∷ to NL (54 ∷ []) 2 ∷ to IS (2 ∷ []) 1 ∷ [])
    ++ from IS (to SB (80 ∷ []) 3 ∷ to NL (55 ∷ []) 2 ∷ to SF (52 ∷ []) 1 ∷ [])

-- those transitions that pass a test, in their order
abbrev pub those : (Transition → Bool) → List Transition → List Transition
those p [] = []
those p (a ∷ xs) = cond (p a) (a ∷ those p xs) (those p xs)

-- does it leave mode m?
abbrev pub leaves_from : ℕ → Transition → Bool
leaves_from m a = eqb a.leaves m
