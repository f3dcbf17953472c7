-- `judging::release` meets its contract.
use mathlib.Core.Path.{sym, ap, ◌∙◌}
use Rattle.kinds.specs.declared.Ticket.{Ticket}
use Rattle.rules.specs.Meant.{ruling_meant}
use Rattle.rules.specs.Named.{name_ground}
use Rattle.rules.specs.Registering.{released}
use Rattle.rules.specs.Ruling.{ruled}
use Rattle.rules.specs.Rules.{ground_of, done_by, rule}
use Rattle.judging.specs.Judged.{judged}
use Rattle.judging.proofs.release.Goals as goal

pub returns : goal.returns
unfolding judged rule ground_of done_by
returns c settings =
    ap (λ (k : Ticket). ruling_meant k c.release.result) (sym c.counter.ensures)
    ∙ c.release.ensures
    ∙ (λ i. let counter = c.counter.ensures i in let named = c.find.ensures i in ruled counter (name_ground named 0) (released counter named))
