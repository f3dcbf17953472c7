-- `acting::step` meets its contract.
use Rattle.acting.proofs.DeedLaws.{step_refused}
use Rattle.acting.proofs.step.Goals as goal

pub returns-then-step-ne0 : goal.returns-then-step-ne0
returns-then-step-ne0 c = step_refused _ _ _ (λ e. c.if-step-ne0.true (rw c.next_mode-step.ensures e))
