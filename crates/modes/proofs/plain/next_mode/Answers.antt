-- `modes::plain::next_mode` meets its contract: the input is refused, or walked.
use borrow.Author.Rules.{rules}
use Rattle.modes.specs.Plain.{plain_step}
use Rattle.modes.proofs.plain.next_mode.Goals as goal

pub returns-then-is_refused : goal.returns-then-is_refused
unfolding plain_step
returns-then-is_refused c = search rules

pub returns : goal.returns
unfolding plain_step
returns c = search rules
