-- `trace_files::answer::line` meets its contract, a case for each way out.
use mathlib.Core.Path.{sym, ap, ◌∙◌}
use Prim.Native.Nat.{ℕ, ◌+◌}
use borrow.Author.Tests.{eq-eqb, ne_eqb}
use Rattle.trace_files.specs.Answer.{wrong_text, answer_text, written}
use Rattle.trace_files.proofs.answer.line.Goals as goal

pub returns-then-is_right : goal.returns-then-is_right
unfolding answer_text
returns-then-is_right c = c.yes_line.ensures ∙ simp (sym c.is_right.ensures ∙ c.if-is_right.true)

pub returns-then-answer-ne0 : goal.returns-then-answer-ne0
unfolding answer_text
returns-then-answer-ne0 c =
    c.refused_line.ensures
    ∙ simp (sym c.is_right.ensures ∙ c.if-is_right.false, ne_eqb _ _ c.if-answer-ne0.true)

pub returns : goal.returns
unfolding answer_text
returns c =
    let file = c.args.file in
    c.wrong_line.ensures
    ∙ ap (λ (m : ℕ). written (wrong_text (file.entries + 1) file.judged.wrong file.judged.due m)) c.found.ensures
    ∙ simp (sym c.is_right.ensures ∙ c.if-is_right.false, eq-eqb _ _ c.if-answer-ne0.false)
