-- `lines::line::Line::with_byte` meets its contract.
use borrow.Author.Tests.{lt-ltb, le-ltb}
use Rattle.lines.specs.Line.{with_byte}
use Rattle.lines.proofs.line.Line.with_byte.Goals as goal

pub returns-then-self-lt-ROOM : goal.returns-then-self-lt-ROOM
unfolding with_byte
returns-then-self-lt-ROOM c = simp (lt-ltb _ _ c.if-self-lt-ROOM.true)

pub returns-else-self-lt-ROOM : goal.returns-else-self-lt-ROOM
unfolding with_byte
returns-else-self-lt-ROOM c = simp (le-ltb _ _ c.if-self-lt-ROOM.false)
