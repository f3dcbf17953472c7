-- `transitions::names::is_mode` meets its contract.
use borrow.Author.Rules.{rules}
use Rattle.transitions.specs.Names.{is_mode}
use Rattle.transitions.proofs.names.is_mode.Goals as goal

pub returns : goal.returns
unfolding is_mode
returns c = search rules
