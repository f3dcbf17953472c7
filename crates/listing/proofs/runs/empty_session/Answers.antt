-- `listing::runs::empty_session` meets its contract.
use mathlib.Core.Path.{refl}
use Rattle.replay.specs.Demand3.{depth}
use Rattle.recording.specs.Recorded.{zeros}
use Rattle.listing.proofs.runs.empty_session.Goals as goal

pub returns : goal.returns
unfolding zeros depth
returns c = refl
