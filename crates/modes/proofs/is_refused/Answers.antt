-- `modes::is_refused` meets its contract, a case for each test.
use borrow.Author.Rules.{rules}
use Rattle.modes.specs.Next.{refuses}
use Rattle.modes.proofs.is_refused.Goals as goal

pub returns-then-flags-ne-FLAGS : goal.returns-then-flags-ne-FLAGS
unfolding refuses
returns-then-flags-ne-FLAGS c = search rules

pub returns-else-flags-ne-FLAGS : goal.returns-else-flags-ne-FLAGS
unfolding refuses
returns-else-flags-ne-FLAGS c = search rules
