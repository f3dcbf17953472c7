-- `clock::difference` meets its contract, across midnight and else.
use native.Mathlib.Omega.{arith}
use Rattle.clock.proofs.Grounds.{both_frames}
use Rattle.clock.proofs.Differences.{plain, over_midnight}
use Rattle.clock.proofs.difference.Goals as goal

pub overflow_add-result : goal.overflow_add-result
overflow_add-result c = omega (arith, (both_frames _ _ c.requires).0.1)

pub overflow_sub-result : goal.overflow_sub-result
overflow_sub-result c = let h = both_frames _ _ c.requires in omega (arith, h.0.0, h.1.1)

pub returns-then-station-onboard : goal.returns-then-station-onboard
returns-then-station-onboard c = over_midnight _ _ c.requires c.if-station-onboard.true

pub returns-else-station-onboard : goal.returns-else-station-onboard
returns-else-station-onboard c = plain _ _ c.requires (omega (arith, c.if-station-onboard.false))
