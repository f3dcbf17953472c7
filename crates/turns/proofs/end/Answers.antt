-- `turns::end` meets its contract.
use Rattle.lines.specs.Text.{end_line}
use Rattle.turns.proofs.end.Goals as goal

pub returns : goal.returns
returns c =
    let a = c.args in
    let both = c.put.ensures (end_line a.lines a.accepted) c.end_line.ensures in
    record {
      value = both.0;
      output_after = both.1;
    }
