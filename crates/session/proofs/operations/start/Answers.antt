-- `session::operations::start` meets its contract.
use Rattle.rules.specs.{Refusals.number_of, Ruling.refused_with}
use mathlib.Core.Path.{sym, ap, ◌∙◌}
use mathlib.Core.Bool.{cond}
use Rattle.store.specs.Emptied.{emptied}
use Rattle.session.specs.Answers.{start_answer, start_after}
use Rattle.stepback.proofs.BackLaws.{of-session, of_none}
use Rattle.session.proofs.operations.start.Goals as goal

pub returns-then-not-is_session : goal.returns-then-not-is_session
unfolding start_answer start_after number_of
returns-then-not-is_session c =
    let bs = c.args.session.now in
    let none = sym c.is_session.ensures ∙ c.if-not-is_session.true in
    record {
      value = c.refused.ensures ∙ ap refused_with c.number.ensures ∙ sym (of_none _ _ none);
      session_after = sym (λ i. cond (none i) (emptied bs) bs);
    }

pub returns : goal.returns
unfolding start_answer start_after
returns c =
    let bs = c.args.session.now in
    let whole = sym c.is_session.ensures ∙ c.if-not-is_session.false in
    record {
      value = c.accepted.ensures ∙ sym (of-session _ _ whole);
      session_after = c.clear.ensures ∙ sym (λ i. cond (whole i) (emptied bs) bs);
    }
