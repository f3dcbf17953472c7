-- `judging::named::find` meets its contract.
use Rattle.rules.specs.Named.{in_row, named_in}
use Rattle.judging.proofs.named.find.Goals as goal

pub returns-in_default : goal.returns-in_default
unfolding named_in in_row
returns-in_default c = simp (← c.find.ensures, c.in_default.is)

pub returns : goal.returns
unfolding named_in in_row
returns c = simp (← c.find.ensures, c.in-Some.is, c.train-train.ensures)
