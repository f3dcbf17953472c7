-- The mode step as it is read on paper (document 02, T-09): all transitions one after another, in the order of the paper, with the best so far.
use mathlib.Core.{Bool.Bool, Bool.true, Bool.false, Bool.cond, Bool.◌&&◌, List.List, List.[], List.◌∷◌}
use Rattle.std.specs.Prelude.{ℕ, min, Option, None, Some}
use lib.{Dec.eqb, Dec.ltb}
use Rattle.numbers.specs.Numbers.{one_if}
use Rattle.transitions.specs.Table.{Transition, table, leaves_from}
use Rattle.modes.specs.{Next.is_open, Next.refuses, Next.refused, declared.Step.Step, declared.plain.Best.Best}

-- the best so far: mode, priority and tie mark. Where no transition has counted so far there is none
abbrev pub so_far : ℕ → ℕ → Bool → Best
so_far m p t = record { mode = m; priority = p; tie = t }

-- after one more transition that counts: the first one, and a better one, which has a smaller number, takes the place and clears the mark; one that ties leaves
-- the lower target and sets the mark; a worse one changes nothing
unfoldable pub weighed : Option Best → ℕ → ℕ → Best
weighed None target p = so_far target p false
weighed (Some b) target p = cond (ltb p b.priority) (so_far target p false) (cond (eqb p b.priority) (so_far (min b.mode target) p true) b)

-- a transition counts in mode m where it leaves m and is open
abbrev pub counts : ℕ → List ℕ → Transition → Bool
counts m flags a = leaves_from m a && is_open flags a

-- the best so far, after one more transition: weighed where it counts, else as it was
abbrev pub passed : ℕ → List ℕ → Option Best → Transition → Option Best
passed m flags b a = cond (counts m flags a) (Some (weighed b a.target a.priority)) b

-- the walk: the best so far, after these transitions, one after another
unfoldable pub walked : ℕ → List ℕ → Option Best → List Transition → Option Best
walked m flags b [] = b
walked m flags b (a ∷ xs) = walked m flags (passed m flags b a) xs

-- the step of mode m that the best so far tells; where there is none the mode stays, with priority 0
abbrev pub told : ℕ → Option Best → Step
told m None = record { answer = 0; mode = m; priority = 0; tie = 0 }
told m (Some b) = record { answer = 0; mode = b.mode; priority = b.priority; tie = one_if b.tie }

-- the mode step by the walk over the whole table, for any number as the mode and any bytes as the flags
unfoldable pub plain_step : ℕ → List ℕ → Step
plain_step m flags = cond (refuses m flags) refused (told m (walked m flags None table))
