-- `acting::on` meets its contract.
use mathlib.Core.Path.{sym, ap, ◌∙◌}
use Rattle.rules.specs.Deeds.{meant, done}
use Rattle.rules.specs.Meant.{ruling_by, ruling_meant}
use Rattle.rules.proofs.ChainLaws.{met, named_refused}
use Rattle.acting.proofs.DeedLaws.{own_ground, done_in_row}
use Rattle.acting.proofs.on.Goals as goal

pub returns-in_err-live : goal.returns-in_err-live
returns-in_err-live c =
    ap (ruling_meant c.args.counter) (met _ _ c.from_residual.ensures.1)
    ∙ named_refused c.args.counter c.args.named _ _ _ (sym c.live_train.ensures ∙ c.in_err-live.was)

pub returns-in_err-changed : goal.returns-in_err-changed
returns-in_err-changed c =
    let a = c.args in
    ap (ruling_meant a.counter) (met _ _ c.from_residual-in_err-changed.ensures.1)
    ∙ own_ground a.counter a.named _ _ (done (meant a.deed a.flags.now)) (sym c.live_train.ensures ∙ c.in_ok-live.was) c.in_err-changed.ensures

pub returns : goal.returns
returns c =
    let a = c.args in
    (λ i. ruling_by (record { told = c.in_ok-changed.changed.told; counter = a.counter; effect = c.on_row.ensures i }))
    ∙ done_in_row a.counter a.named _ c.in_ok-changed.changed (done (meant a.deed a.flags.now)) (sym c.live_train.ensures ∙ c.in_ok-live.was) c.in_ok-changed.ensures
