-- `listing::whole::put_records` meets its contract, and ends: the records that a recording can still have fall.
use mathlib.Core.Path.{refl}
use native.Mathlib.Omega.{arith}
use borrow.Author.Rules.{rules}
use Rattle.listing.specs.Listing.{listed_from}
use Rattle.listing.proofs.WholeLaws.{reached_first, reached_next, Stopped, stopped_end}
use Rattle.listing.proofs.whole.put_records.Goals.{else-loop-at-test, then-loop-at-test+then-turn}
use Rattle.listing.proofs.whole.put_records.Goals as goal

pub loop-at-init : goal.loop-at-init
loop-at-init c =
    let a = c.args in
    (reached_first a.session.now a.recording.now a.output.now a.from c.requires, refl, refl)

pub overflow_add-at : goal.overflow_add-at
overflow_add-at c =
    let e = c.next-turn.ensures in
    omega (arith, (reached_next c.loop-at.invariant.0 refl c.loop-at-test.true (e.value, (e.session_after, e.output_after))).inside)

pub overflow_add-accepted : goal.overflow_add-accepted
overflow_add-accepted c =
    let e = c.next-turn.ensures in
    let past = reached_next c.loop-at.invariant.0 refl c.loop-at-test.true (e.value, (e.session_after, e.output_after)) in
    omega (arith, past.counted, past.most)

pub loop-at-preserved : goal.loop-at-preserved
loop-at-preserved c =
    let e = c.next-turn.ensures in
    let past = reached_next c.loop-at.invariant.0 refl c.loop-at-test.true (e.value, (e.session_after, e.output_after)) in
    (rw c.if-turn.false at past, search rules, search rules)

pub returns : goal.returns
returns c =
    let a = c.args in
    let r = c.loop-at.invariant.0 in
    let j = c.loop-at-test in
    let stopped : Stopped (listed_from a.session.now a.recording.now 0 0) a.recording.now a.output.now a.from j.session j.output j.written j.lines j.accepted =
    elim j.branch [
      | else-loop-at-test w ↦
          rw (w.session-is, w.output-is, w.written-is, w.lines-is, w.accepted-is)
          (record { at = _; over = _; reached = r; none = λ o. w.loop-at-test.false })
      | then-loop-at-test+then-turn w ↦
          let e = w.next-turn.ensures in
          rw (w.session-is, w.output-is, w.written-is, w.lines-is, w.accepted-is)
          (record {
            at = _;
            over = _;
            reached = reached_next r refl w.loop-at-test.true (e.value, (e.session_after, e.output_after));
            none = λ o. grind arith;
          })
    ] in
    stopped_end stopped (c.end.ensures.value, c.end.ensures.output_after)
