-- `clock::is_refused` meets its contract, a case for each test.
use mathlib.Core.Path.{◌∙◌, sym}
use Rattle.clock.specs.Age.{refuses}
use Rattle.clock.proofs.is_refused.Goals as goal

pub returns-then-is_no_frame : goal.returns-then-is_no_frame
unfolding refuses
returns-then-is_no_frame c = simp (sym c.is_no_frame.ensures ∙ c.if-is_no_frame.true) c.if-is_no_frame.true

pub returns-else-is_no_frame : goal.returns-else-is_no_frame
unfolding refuses
returns-else-is_no_frame c = simp (sym c.is_no_frame.ensures ∙ c.if-is_no_frame.false) c.is_no_frame-else-is_no_frame.ensures
