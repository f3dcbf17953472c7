-- `session::operations::commit` meets its contract.
use mathlib.Core.Path.{refl, sym, ap, ◌∙◌}
use borrow.Author.Tests.{eqb-false}
use Rattle.rules.specs.{Refusals.number_of, Ruling.refused, Ruling.refused_with}
use Rattle.rules.specs.Meant.{ruling_by}
use Rattle.rules.proofs.ChainLaws.{numbered}
use Rattle.stepback.proofs.BackLaws.{of-session, of_none}
use Rattle.session.proofs.OperationLaws.{taken_in, not_taken, taken_elsewhere}
use Rattle.session.proofs.operations.commit.Goals as goal

pub returns-then-not-is_session : goal.returns-then-not-is_session
unfolding number_of
returns-then-not-is_session c =
    let none = sym c.is_session.ensures ∙ c.if-not-is_session.true in
    record {
      value = c.refused.ensures ∙ ap refused_with c.number.ensures ∙ sym (of_none _ _ none);
      session_after = taken_elsewhere _ _ none;
    }

pub returns-in-Ok : goal.returns-in-Ok
returns-in-Ok c =
    let whole = sym c.is_session.ensures ∙ c.if-not-is_session.false in
    rw c.in-Ok.is (record {
      value = c.of.ensures ∙ sym (of-session _ _ whole);
      session_after = c.settle.ensures ∙ taken_in _ (ruling_by c.in-Ok.ruling) refl;
    })

pub returns-in-Err : goal.returns-in-Err
returns-in-Err c =
    let whole = sym c.is_session.ensures ∙ c.if-not-is_session.false in
    rw c.in-Err.is (record {
      value = c.refused-in-Err.ensures ∙ ap refused_with c.number-in-Err.ensures ∙ sym (of-session _ _ whole);
      session_after = not_taken _ (refused _ (number_of c.in-Err.reason)) (eqb-false _ _ (numbered c.in-Err.reason));
    })
