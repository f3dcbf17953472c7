-- `listing::whole::list` meets its contract: measuring puts nothing, since it is lent no bytes to put.
use mathlib.Core.Path.{ap, ◌∙◌}
use lib.ListN.{length}
use borrow.Author.Rules.{rules}
use native.Mathlib.Omega.{arith}
use Rattle.listing.proofs.WholeLaws.{none_before, list-refused, list-accepted}
use Rattle.listing.proofs.whole.list.Goals as goal

pub returns-then-output-length : goal.returns-then-output-length
returns-then-output-length c =
    let a = c.args in
    let same = none_before c.put_all-length.new.output a.output.now (search rules) in
    let says = list-refused a.recording.now a.output.now c.put_all-length.result c.put_all-length.ensures.0 (omega (arith, ap length same, c.if-output-length.true)) in
    record {
      value = says.0;
      output_after = same ∙ says.1;
    }

pub returns : goal.returns
returns c =
    let a = c.args in
    let same = none_before c.put_all-length.new.output a.output.now (search rules) in
    let both = list-accepted a.recording.now a.output.now c.put_all-length.result c.put_all-length.ensures.0 (omega (arith, ap length same, c.if-output-length.false))
    (rw same at c.put_all.ensures) in
    record {
      value = both.0;
      output_after = both.1;
    }
