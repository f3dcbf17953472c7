-- What the code does with one transition of the table. Only private functions cite this.
use mathlib.Core.{Bool.cond, List.List}
use Rattle.std.specs.Prelude.{ℕ, min, Option, None, Some}
use lib.{Dec.eqb, Dec.ltb, ListN.get_or}
use Rattle.transitions.specs.Held.{stated}
use Rattle.modes.specs.{Flags.any_set, Next.accepted, declared.Step.Step}

-- the best step so far, after one more open transition
unfoldable pub kept : Option Step → ℕ → ℕ → Step
kept None target priority = accepted target priority 0
kept (Some s) target priority =
    cond (ltb priority s.priority) (accepted target priority 0)
    (cond (eqb priority s.priority) (accepted (min s.mode target) priority 1) s)

-- the best step so far, after a transition given by its bytes: it counts where one of its conditions is set
unfoldable pub considered : List ℕ → Option Step → List ℕ → Option Step
considered flags s bytes = cond (any_set flags (stated bytes)) (Some (kept s (get_or bytes 0 0) (get_or bytes 1 0))) s
