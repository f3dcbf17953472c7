-- `traces::entry::Judged::is_right` meets its contract.
use borrow.Author.Rules.{rules}
use Rattle.traces.specs.Entry.{is_right}
use Rattle.traces.proofs.entry.Judged.is_right.Goals as goal

pub returns-then-self-eq0 : goal.returns-then-self-eq0
unfolding is_right
returns-then-self-eq0 c = search rules

pub returns-else-self-eq0 : goal.returns-else-self-eq0
unfolding is_right
returns-else-self-eq0 c = search rules
