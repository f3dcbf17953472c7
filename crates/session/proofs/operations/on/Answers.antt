-- `session::operations::on` meets its contract.
use mathlib.Core.Path.{refl}
use Rattle.rules.specs.Deeds.{meant}
use Rattle.rules.specs.Rules.{Op}
use Rattle.settings.specs.Usual.{usual}
use Rattle.session.proofs.OperationLaws.{committed}
use Rattle.session.proofs.operations.on.Goals as goal

pub returns : goal.returns
returns c =
    let a = c.args in
    let made = c.commit in
    let both = committed a.session.now (Op.on a.loco a.ticket (meant a.deed a.flags.now)) _ _ _ _ refl (c.on.ensures usual) made.ensures.value made.ensures.session_after in
    record {
      value = both.0;
      session_after = both.1;
    }
