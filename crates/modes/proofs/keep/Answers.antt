-- `modes::keep` meets its contract: there is no best so far, or the priorities are compared.
use borrow.Author.Rules.{rules}
use Rattle.modes.specs.Kept.{kept}
use Rattle.modes.proofs.keep.Goals as goal

pub returns-in_default : goal.returns-in_default
unfolding kept
returns-in_default c = search rules

pub returns-in-Less : goal.returns-in-Less
unfolding kept
returns-in-Less c = search rules

pub returns-in-Equal : goal.returns-in-Equal
unfolding kept
returns-in-Equal c = search rules

pub returns-in-Greater : goal.returns-in-Greater
unfolding kept
returns-in-Greater c = search rules
