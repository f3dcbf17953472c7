use native.Mathlib.Omega.{arith}
use Rattle.replay.specs.Demand3.{depth}
use Rattle.ring.proofs.Rings.{before_down, before_round}
use Rattle.ring.proofs.notch_before.Goals as goal

pub returns-then-notch-eq0 : goal.returns-then-notch-eq0
unfolding depth
returns-then-notch-eq0 c = before_round depth c.args.notch _ (omega arith) (omega arith)

pub returns-else-notch-eq0 : goal.returns-else-notch-eq0
unfolding depth
returns-else-notch-eq0 c = before_down depth c.args.notch _ (omega arith) (omega arith)
