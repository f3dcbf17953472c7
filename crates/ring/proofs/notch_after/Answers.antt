use native.Mathlib.Omega.{arith}
use Rattle.replay.specs.Demand3.{depth}
use Rattle.ring.proofs.Rings.{after_up, after_round}
use Rattle.ring.proofs.notch_after.Goals as goal

pub returns-then-notch : goal.returns-then-notch
unfolding depth
returns-then-notch c = after_up depth c.args.notch _ (omega arith) (omega arith)

pub returns-else-notch : goal.returns-else-notch
unfolding depth
returns-else-notch c = after_round depth c.args.notch _ (omega arith) (omega arith)
