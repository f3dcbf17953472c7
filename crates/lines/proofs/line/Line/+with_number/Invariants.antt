-- `lines::line::Line::with_number` ends: the number above its last digit is smaller.
use Rattle.lines.proofs.line.Line.+with_number.Given as goal

abbrev pub decreases-with_number : goal.decreases-with_number
decreases-with_number l = l.n
