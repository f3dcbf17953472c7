-- `lines::line::Line::with_next` meets its contract.
use Rattle.lines.specs.Line.{with_text}
use Rattle.lines.specs.Text.{next}
use Rattle.lines.proofs.line.Line.with_next.Goals as goal

pub returns : goal.returns
unfolding next with_text
returns c = rw (c.with_number.ensures, c.with_byte.ensures)
