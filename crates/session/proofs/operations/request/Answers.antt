-- `session::operations::request` meets its contract.
use Rattle.rules.specs.Rules.{Op}
use Rattle.session.proofs.OperationLaws.{committed}
use Rattle.session.proofs.operations.request.Goals as goal

pub returns : goal.returns
returns c =
    let a = c.args in
    let made = c.commit in
    let both = committed a.session.now (Op.request a.loco a.bytes) _ _ _ _ c.usual.ensures c.request.ensures made.ensures.value made.ensures.session_after in
    record {
      value = both.0;
      session_after = both.1;
    }
