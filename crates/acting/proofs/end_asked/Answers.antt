-- `acting::end_asked` meets its contract.
use mathlib.Core.Path.{sym, ap, ◌∙◌}
use Rattle.rules.specs.Deeds.{end_answer, end_asked}
use Rattle.rules.specs.Meant.{answer_meant}
use Rattle.rules.proofs.ChainLaws.{met, answer_refused}
use Rattle.acting.proofs.DeedLaws.{end_there}
use Rattle.acting.proofs.end_asked.Goals as goal

pub returns-in_err-asked : goal.returns-in_err-asked
unfolding end_asked
returns-in_err-asked c =
    ap answer_meant (met _ _ c.from_residual.ensures.1) ∙ answer_refused c.args.named _ _ (sym c.live_train.ensures ∙ c.in_err-asked.was)

pub returns : goal.returns
returns c = c.end_told.ensures ∙ ap end_answer c.end.ensures ∙ end_there c.args.named _ (sym c.live_train.ensures ∙ c.in_ok-asked.was)
