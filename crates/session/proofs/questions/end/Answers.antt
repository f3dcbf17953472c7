-- `session::questions::end` meets its contract.
use Rattle.rules.specs.{Refusals.number_of, Ruling.refused_with}
use mathlib.Core.Path.{sym, ap, ◌∙◌}
use Rattle.session.specs.Answers.{end_answer_to}
use Rattle.stepback.proofs.BackLaws.{of-session, of_none}
use Rattle.session.proofs.questions.end.Goals as goal

pub returns-then-not-is_session : goal.returns-then-not-is_session
unfolding end_answer_to number_of
returns-then-not-is_session c = c.refused.ensures ∙ ap refused_with c.number.ensures ∙ sym (of_none _ _ (sym c.is_session.ensures ∙ c.if-not-is_session.true))

pub returns : goal.returns
unfolding end_answer_to
returns c = c.of.ensures ∙ c.end.ensures ∙ sym (of-session _ _ (sym c.is_session.ensures ∙ c.if-not-is_session.false))
