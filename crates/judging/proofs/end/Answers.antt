-- `judging::end` meets its contract.
use mathlib.Core.Path.{ap, ◌∙◌}
use Rattle.rules.specs.Deeds.{end_asked}
use Rattle.judging.specs.Judged.{end_judged}
use Rattle.judging.proofs.end.Goals as goal

pub returns : goal.returns
unfolding end_judged
returns c = c.end_asked.ensures ∙ ap end_asked c.find.ensures
