-- `trace_files::answer::with_which` meets its contract.
use mathlib.Core.Path.{◌∙◌}
use borrow.Author.Tests.{eq-eqb, ne_eqb}
use Rattle.lines.specs.Words.{words}
use Rattle.trace_files.specs.Answer.{which_text}
use Rattle.trace_files.proofs.answer.with_which.Goals as goal

pub returns-then-which-eq-BEFORE : goal.returns-then-which-eq-BEFORE
unfolding words which_text
returns-then-which-eq-BEFORE c = c.with_words.ensures ∙ simp (eq-eqb _ _ c.if-which-eq-BEFORE.true)

pub returns : goal.returns
unfolding words which_text
returns c = c.with_words-2.ensures ∙ simp (ne_eqb _ _ c.if-which-eq-BEFORE.false)
