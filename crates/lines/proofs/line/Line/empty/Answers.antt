-- `lines::line::Line::empty` meets its contract.
use mathlib.Core.Path.{refl}
use Rattle.lines.specs.Line.{line_of}
use Rattle.lines.proofs.line.Line.empty.Goals as goal

pub returns : goal.returns
unfolding line_of
returns c = refl
