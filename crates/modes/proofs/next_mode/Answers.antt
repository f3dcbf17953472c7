-- `modes::next_mode` meets its contract: the input is refused, or the transitions of the mode are walked.
use mathlib.Core.Path.{◌∙◌, sym}
use Rattle.modes.proofs.Stepping.{next-refused, next_chosen}
use Rattle.modes.proofs.next_mode.Goals as goal

pub returns-then-is_refused : goal.returns-then-is_refused
returns-then-is_refused c = c.refused.ensures ∙ next-refused _ _ (sym c.is_refused.ensures ∙ c.if-is_refused.true)

pub returns : goal.returns
returns c = c.walk.ensures ∙ sym (next_chosen _ _ (sym c.is_refused.ensures ∙ c.if-is_refused.false))
