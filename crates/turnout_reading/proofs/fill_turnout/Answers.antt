-- `turnout_reading::fill_turnout` meets its contract: stores one after the other are a run of stores.
use Rattle.turnout_reading.proofs.ReadingLaws.{stored}
use Rattle.turnout_reading.proofs.fill_turnout.Goals as goal

pub returns : goal.returns
returns c = stored c.args.out.now c.args.at c.args.speed c.args.distances
