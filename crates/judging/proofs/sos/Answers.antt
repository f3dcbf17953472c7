-- `judging::sos` meets its contract.
use mathlib.Core.Path.{sym, ap, ◌∙◌}
use Rattle.kinds.specs.declared.Ticket.{Ticket}
use Rattle.rules.specs.Meant.{ruling_meant}
use Rattle.rules.specs.Raising.{sos_ground, raised}
use Rattle.rules.specs.Ruling.{ruled}
use Rattle.rules.specs.Rules.{ground_of, done_by, rule}
use Rattle.judging.specs.Judged.{judged}
use Rattle.judging.proofs.sos.Goals as goal

pub returns : goal.returns
unfolding judged rule ground_of done_by
returns c =
    let a = c.args in
    ap (λ (k : Ticket). ruling_meant k c.raise.result) (sym c.counter.ensures)
    ∙ c.raise.ensures
    ∙ (λ i. let counter = c.counter.ensures i in
    let l2 = c.find-l2.ensures i in
    let l1 = c.find-l1.ensures i in
    ruled counter (sos_ground a.settings.margin a.grid l2 l1) (raised a.settings.margin a.grid counter l2 l1))
