-- `trace_files::answer::found` meets its contract.
use mathlib.Core.Path.{◌∙◌}
use borrow.Author.Tests.{eq-eqb, ne_eqb}
use Rattle.trace_files.specs.Answer.{found_in}
use Rattle.trace_files.proofs.answer.found.Goals as goal

pub returns-then-which-eq-BEFORE : goal.returns-then-which-eq-BEFORE
unfolding found_in
returns-then-which-eq-BEFORE c = c.mode_before.ensures ∙ simp (eq-eqb _ _ c.if-which-eq-BEFORE.true)

pub returns : goal.returns
unfolding found_in
returns c = c.mode_after.ensures ∙ simp (ne_eqb _ _ c.if-which-eq-BEFORE.false)
