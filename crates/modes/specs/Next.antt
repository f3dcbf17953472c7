-- The mode step (document 01, "Modes"): of the open transitions those of the best priority, of these the lowest target.
use mathlib.Core.{Bool.Bool, Bool.cond, Bool.not, Bool.◌||◌, List.List, List.[], List.◌∷◌, List.map, List.foldr}
use Rattle.std.specs.Prelude.{ℕ, min}
use lib.{Dec.eqb, Dec.ltb, ListN.length}
use Rattle.numbers.specs.Numbers.{one_if}
use Rattle.transitions.specs.{Names.is_mode, Table.Transition, Table.table, Table.those, Table.leaves_from}
use Rattle.modes.specs.{Flags.any_set, Flags.wrong_count, Flags.flag_above_one, declared.Step.Step}

-- a transition is open when any of its conditions is set
abbrev pub is_open : List ℕ → Transition → Bool
is_open flags a = any_set flags a.conditions

-- the open transitions of mode m
abbrev pub opens : ℕ → List ℕ → List Transition
opens m flags = those (is_open flags) (those (leaves_from m) table)

-- the least of some numbers (0 of none)
abbrev pub least : List ℕ → ℕ
least [] = 0
least (n ∷ ns) = foldr min n ns

-- the best priority among some transitions: the smallest number
abbrev pub best : List Transition → ℕ
best xs = least (map (λ a. a.priority) xs)

-- does it have priority p?
abbrev pub has_priority : ℕ → Transition → Bool
has_priority p a = eqb a.priority p

-- those of the best priority
abbrev pub winners : List Transition → List Transition
winners xs = those (has_priority (best xs)) xs

-- the lowest target number among some transitions
abbrev pub lowest : List Transition → ℕ
lowest xs = least (map (λ a. a.target) xs)

-- the tie mark, where n transitions share the best priority: 1 for two or more
abbrev pub tie_mark : ℕ → ℕ
tie_mark n = one_if (ltb 1 n)

-- an accepted step: the next mode, the priority and the tie mark
abbrev pub accepted : ℕ → ℕ → ℕ → Step
accepted m p t = record { answer = 0; mode = m; priority = p; tie = t }

-- the step that stays in mode m
abbrev pub stays : ℕ → Step
stays m = accepted m 0 0

-- the step of mode m with these transitions open
unfoldable pub choose : ℕ → List Transition → Step
choose m [] = stays m
choose m (a ∷ xs) = accepted (lowest (winners (a ∷ xs))) (best (a ∷ xs)) (tie_mark (length (winners (a ∷ xs))))

-- ground of refusal: no mode has this number
abbrev pub mode_out_of_range : ℕ → Bool
mode_out_of_range m = not (is_mode m)

-- the grounds of refusal together
unfoldable pub refuses : ℕ → List ℕ → Bool
refuses m flags = mode_out_of_range m || (wrong_count flags || flag_above_one flags)

abbrev pub out_of_range : ℕ  -- the answer's number on each of these grounds
out_of_range = 17

-- a refusal has zeros for its numbers
abbrev pub refused : Step
refused = record { answer = out_of_range; mode = 0; priority = 0; tie = 0 }

-- the mode step, for any number as the mode and any bytes as the flags
unfoldable pub next_step : ℕ → List ℕ → Step
next_step m flags = cond (refuses m flags) refused (choose m (opens m flags))
