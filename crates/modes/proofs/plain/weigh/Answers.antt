-- `modes::plain::weigh` meets its contract: there is no best so far, or the priorities are compared.
use borrow.Author.Rules.{rules}
use Rattle.modes.specs.Plain.{weighed}
use Rattle.modes.proofs.plain.weigh.Goals as goal

pub returns-in_default : goal.returns-in_default
unfolding weighed
returns-in_default c = search rules

pub returns-in-Less : goal.returns-in-Less
unfolding weighed
returns-in-Less c = search rules

pub returns-in-Equal : goal.returns-in-Equal
unfolding weighed
returns-in-Equal c = search rules

pub returns-in-Greater : goal.returns-in-Greater
unfolding weighed
returns-in-Greater c = search rules
