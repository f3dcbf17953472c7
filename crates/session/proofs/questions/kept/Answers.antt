-- `session::questions::kept` meets its contract.
use native.Mathlib.Omega.{arith}
use Rattle.replay.specs.Demand3.{depth}
use Rattle.session.proofs.questions.kept.Goals as goal

pub overflow_cast-result : goal.overflow_cast-result
unfolding depth
overflow_cast-result c = omega (arith, c.kept.ensures)
