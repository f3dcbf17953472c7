-- `clock::is_no_frame` meets its contract, a case for each test.
use borrow.Author.Tests.{le-ltb, lt-ltb}
use Rattle.clock.specs.Age.{not_a_frame}
use Rattle.clock.proofs.is_no_frame.Goals as goal

pub returns-then-n-lt1 : goal.returns-then-n-lt1
unfolding not_a_frame
returns-then-n-lt1 c = simp (lt-ltb _ _ c.if-n-lt1.true)

pub returns-else-n-lt1 : goal.returns-else-n-lt1
unfolding not_a_frame
returns-else-n-lt1 c = simp (le-ltb _ _ c.if-n-lt1.false)
