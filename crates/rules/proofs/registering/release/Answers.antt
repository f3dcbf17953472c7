-- `rules::registering::release` meets its contract.
use mathlib.Core.Path.{sym, ap, ◌∙◌}
use Rattle.rules.specs.Meant.{ruling_meant}
use Rattle.rules.proofs.ChainLaws.{met, named_refused}
use Rattle.rules.proofs.registering.release.Goals as goal

pub returns-in_err-live : goal.returns-in_err-live
returns-in_err-live c =
    ap (ruling_meant c.args.counter) (met _ _ c.from_residual.ensures.1)
    ∙ named_refused c.args.counter c.args.named c.in_err-live.field-0.0 _ _ (sym c.live_train.ensures ∙ c.in_err-live.was)
