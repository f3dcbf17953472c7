-- `holding::part` meets its contract.
use Rattle.holding.specs.Held.{stretch}
use Rattle.holding.proofs.HeldLaws.{stretch_within}
use Rattle.holding.proofs.part.Goals as goal

pub returns-clause-value : goal.returns-clause-value
unfolding stretch
returns-clause-value c =
    let a = c.args in
    stretch_within a.buffer.now a.held.at a.held.end _ _ c.within-at.ensures.end c.within-at.ensures.at
