-- `judging::on` meets its contract.
use mathlib.Core.Path.{sym, ap, ◌∙◌}
use Rattle.kinds.specs.declared.Ticket.{Ticket}
use Rattle.rules.specs.Meant.{ruling_meant}
use Rattle.rules.specs.Deeds.{meant, done, deed_ground, deed_done}
use Rattle.rules.specs.Ruling.{ruled}
use Rattle.rules.specs.Rules.{ground_of, done_by, rule}
use Rattle.judging.specs.Judged.{judged}
use Rattle.judging.proofs.on.Goals as goal

pub returns : goal.returns
unfolding judged rule ground_of done_by
returns c settings =
    let a = c.args in
    ap (λ (k : Ticket). ruling_meant k c.on.result) (sym c.counter.ensures)
    ∙ c.on.ensures
    ∙ (λ i. let counter = c.counter.ensures i in
    let named = c.find.ensures i in
    let changed = done (meant a.deed a.flags.now) named.train in
    ruled counter (deed_ground named changed) (deed_done counter named changed))
