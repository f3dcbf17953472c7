-- How the code holds the table: each transition by its bytes, those of a mode together.
use mathlib.Core.{Bool.Bool, Bool.false, Bool.cond, List.List, List.[], List.◌∷◌, List.◌++◌, List.map}
use Rattle.std.specs.Prelude.{ℕ}
use lib.{Dec.eqb, Dec.ltb, ListN.length, ListN.get_or, ListN.take, ListN.drop, ListN.replicate}
use Rattle.transitions.specs.Table.{Transition, table, those, leaves_from}

abbrev pub transition_bytes : ℕ  -- so many bytes a transition takes
transition_bytes = 11

-- the bytes of a transition: target, priority, then the conditions, filled up with zeros
abbrev pub bytes_of : Transition → List ℕ
bytes_of a = take transition_bytes (a.target ∷ a.priority ∷ (a.conditions ++ replicate transition_bytes 0))

-- the table, each transition by its bytes
unfoldable pub table_bytes : List (List ℕ)
table_bytes = map bytes_of table

-- how many transitions stand before those of mode m: those that leave a lower mode
unfoldable pub first_of : ℕ → ℕ
first_of m = length (those (λ a. ltb a.leaves m) table)

-- does transition t, counted from 0, leave mode m? There is none above the last
abbrev pub leaves_at : ℕ → ℕ → Bool
leaves_at m t = get_or (map (leaves_from m) table) t false

-- those that leave mode m, each by its bytes
unfoldable pub leaving_bytes : ℕ → List (List ℕ)
leaving_bytes m = map bytes_of (those (leaves_from m) table)

-- what stands before the first zero
abbrev pub before_zero : List ℕ → List ℕ
before_zero [] = []
before_zero (n ∷ ns) = cond (eqb n 0) [] (n ∷ before_zero ns)

-- the conditions that a transition's bytes state: what stands behind target and priority, up to the first zero
abbrev pub stated : List ℕ → List ℕ
stated bytes = before_zero (drop 2 bytes)
