-- `lines::run_line` meets its contract.
use native.Mathlib.Omega.{arith}
use Rattle.lines.specs.Text.{run_line}
use Rattle.lines.proofs.LineLaws.{written}
use Rattle.lines.proofs.run_line.Goals as goal

pub returns : goal.returns
unfolding run_line
returns c = simp (c.with_words.ensures, c.empty.ensures) (written run_line (omega arith), omega arith)
