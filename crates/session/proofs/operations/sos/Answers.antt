-- `session::operations::sos` meets its contract.
use Rattle.rules.specs.Rules.{Op}
use Rattle.session.proofs.OperationLaws.{committed}
use Rattle.session.proofs.operations.sos.Goals as goal

pub returns : goal.returns
returns c =
    let a = c.args in
    let made = c.commit in
    let both = committed a.session.now (Op.sos a.loco2 a.ticket2 a.loco1 a.ticket1 a.grid) _ _ _ _ c.usual.ensures c.sos.ensures made.ensures.value made.ensures.session_after in
    record {
      value = both.0;
      session_after = both.1;
    }
