-- `traces::entry::is_entry` meets its contract.
use borrow.Author.Rules.{rules}
use Rattle.traces.specs.Entry.{is_entry}
use Rattle.traces.proofs.entry.is_entry.Goals as goal

pub returns-then-is_marked : goal.returns-then-is_marked
unfolding is_entry
returns-then-is_marked c = search rules

pub returns-else-is_marked : goal.returns-else-is_marked
unfolding is_entry
returns-else-is_marked c = search rules
