-- `turns::begin` meets its contract.
use Rattle.lines.specs.Text.{run_line}
use Rattle.turns.proofs.begin.Goals as goal

pub returns : goal.returns
returns c = let both = c.put.ensures run_line c.run_line.ensures in
    record {
      value = both.0;
      output_after = both.1;
    }
