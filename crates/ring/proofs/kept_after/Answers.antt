use native.Mathlib.Omega.{arith}
use Rattle.replay.specs.Demand3.{depth}
use Rattle.ring.proofs.kept_after.Goals as goal

pub returns : goal.returns
unfolding depth
returns c = omega arith
