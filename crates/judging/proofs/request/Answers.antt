-- `judging::request` meets its contract: at each way out the checks before it are passed.
use mathlib.Core.Path.{sym, ap, ◌∙◌}
use Rattle.rules.specs.Meant.{ruling_meant}
use Rattle.rules.specs.Refusals.{number_of}
use Rattle.kinds.specs.Kinds.{next_ticket}
use Rattle.store.specs.Stands.{view_of, book_of, counter_of}
use Rattle.rules.specs.Slots.{lowest_run, start_of}
use Rattle.rules.specs.Registering.{request_ground, row_of_found, granted}
use Rattle.rules.specs.Ruling.{when, unless, ruled}
use Rattle.rules.specs.Rules.{ground_of, done_by, rule}
use Rattle.rules.proofs.ChainLaws.{met}
use Rattle.judging.specs.Judged.{judged}
use Rattle.judging.proofs.OkOr.{ok_or_err, ok_or_ok}
use Rattle.judging.proofs.TicketLaws.{last_one, one_more}
use Rattle.judging.proofs.request.Goals as goal

pub returns-then-not-in_range : goal.returns-then-not-in_range
unfolding judged rule ground_of done_by request_ground when unless ruled number_of
returns-then-not-in_range c =
    simp (← c.in_range.ensures, c.if-not-in_range.true)

pub returns-then-not-is_request : goal.returns-then-not-is_request
unfolding judged rule ground_of done_by request_ground when unless ruled number_of
returns-then-not-is_request c =
    simp (← c.in_range.ensures, c.if-not-in_range.false, ← c.is_request.ensures, c.if-not-is_request.true)

pub returns-then-is_some : goal.returns-then-is_some
unfolding judged rule ground_of done_by request_ground when unless ruled number_of
returns-then-is_some c =
    simp (← c.in_range.ensures, c.if-not-in_range.false, ← c.is_request.ensures, c.if-not-is_request.false, ← c.find_loco.ensures, ← c.is_some.ensures, c.if-is_some.true)

pub returns-in_err-row : goal.returns-in_err-row
unfolding judged rule ground_of done_by request_ground when unless ruled number_of
returns-in_err-row c =
    let k = ok_or_err _ _ _ (sym c.ok_or.ensures.value ∙ c.in_err-row.was) in
    ap (ruling_meant _) (met _ _ c.from_residual.ensures.1)
    ∙ simp (← k.1, ← c.in_range.ensures, c.if-not-in_range.false, ← c.is_request.ensures, c.if-not-is_request.false, ← c.find_loco.ensures, ← c.is_some.ensures, c.if-is_some.false, ← c.find_empty.ensures, k.0)

pub returns-in_err-ticket : goal.returns-in_err-ticket
unfolding judged rule ground_of done_by request_ground when unless ruled number_of
returns-in_err-ticket c =
    let k = ok_or_ok _ _ _ (sym c.ok_or.ensures.value ∙ c.in_ok-row.was) in
    let n = ok_or_err _ _ _ (sym c.ok_or-2.ensures.value ∙ c.in_err-ticket.was) in
    let last = last_one (counter_of c.args.s.now) (ap next_ticket (sym c.counter.ensures) ∙ sym c.next.ensures ∙ n.0) in
    ap (ruling_meant _) (met _ _ c.from_residual-in_err-ticket.ensures.1)
    ∙ simp (← n.1, ← c.in_range.ensures, c.if-not-in_range.false, ← c.is_request.ensures, c.if-not-is_request.false, ← c.find_loco.ensures, ← c.is_some.ensures, c.if-is_some.false, ← c.find_empty.ensures, k, last)

pub returns-in_err-start : goal.returns-in_err-start
unfolding judged rule ground_of done_by request_ground when unless ruled number_of view_of
returns-in_err-start c =
    let a = c.args in
    let k = ok_or_ok _ _ _ (sym c.ok_or.ensures.value ∙ c.in_ok-row.was) in
    let m = ok_or_ok _ _ _ (sym c.ok_or-2.ensures.value ∙ c.in_ok-ticket.was) in
    let more = one_more (counter_of a.s.now) _ (ap next_ticket (sym c.counter.ensures) ∙ sym c.next.ensures ∙ m) in
    let n = ok_or_err _ _ _ (sym c.ok_or-3.ensures.value ∙ c.in_err-start.was) in
    let run = ap (lowest_run (book_of a.s.now)) (sym c.slots_for-wanted.ensures) ∙ sym c.lowest_run.ensures ∙ n.0 in
    ap (ruling_meant _) (met _ _ c.from_residual-in_err-start.ensures.1)
    ∙ simp (← n.1, ← c.in_range.ensures, c.if-not-in_range.false, ← c.is_request.ensures, c.if-not-is_request.false, ← c.find_loco.ensures, ← c.is_some.ensures, c.if-is_some.false, ← c.find_empty.ensures, k, more.0, run)

pub returns : goal.returns
unfolding judged rule ground_of done_by request_ground when unless ruled view_of row_of_found start_of
returns c =
    let a = c.args in
    let k = ok_or_ok _ _ _ (sym c.ok_or.ensures.value ∙ c.in_ok-row.was) in
    let m = ok_or_ok _ _ _ (sym c.ok_or-2.ensures.value ∙ c.in_ok-ticket.was) in
    let more = one_more (counter_of a.s.now) _ (ap next_ticket (sym c.counter.ensures) ∙ sym c.next.ensures ∙ m) in
    let n = ok_or_ok _ _ _ (sym c.ok_or-3.ensures.value ∙ c.in_ok-start.was) in
    let run = ap (lowest_run (book_of a.s.now)) (sym c.slots_for-wanted.ensures) ∙ sym c.lowest_run.ensures ∙ n in
    c.grant.ensures
    ∙ (λ i. granted a.loco (c.slots_for-wanted.ensures i) (more.1 i) c.in_ok-row.row c.in_ok-start.start)
    ∙ simp (← c.in_range.ensures, c.if-not-in_range.false, ← c.is_request.ensures, c.if-not-is_request.false, ← c.find_loco.ensures, ← c.is_some.ensures, c.if-is_some.false, ← c.find_empty.ensures, k, more.0, run)
