-- `turns::take` meets its contract.
use Rattle.turns.specs.Turns.{text_of, is_last, turn_of}
use Rattle.turns.proofs.take.Goals as goal

pub returns : goal.returns
unfolding turn_of
returns c =
    let ran = c.args.ran in
    let says = c.put-length.ensures (text_of ran) c.line_of.ensures in record {
      value = (
        λ i. record { length = says.0.0 i; used = ran.used; accepted = c.accepted_by.ensures i; last = is_last ran },
        says.0.1,
      );
      output_after = says.1;
    }
