-- `traces::entry::does_follow` meets its contract.
use borrow.Author.Rules.{rules}
use Rattle.traces.specs.Entry.{follows}
use Rattle.traces.proofs.entry.does_follow.Goals as goal

pub returns-then-previous-eq-NONE : goal.returns-then-previous-eq-NONE
unfolding follows
returns-then-previous-eq-NONE c = search rules

pub returns-else-previous-eq-NONE : goal.returns-else-previous-eq-NONE
unfolding follows
returns-else-previous-eq-NONE c = search rules
