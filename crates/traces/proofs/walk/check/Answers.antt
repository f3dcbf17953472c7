-- `traces::walk::check` meets its contract. The loop's invariant: what the entries that are left give is what all give.
use mathlib.Core.Path.{sym, ◌∙◌}
use borrow.Author.Rules.{rules}
use Rattle.traces.proofs.TraceLaws.{reached_first, reached_told, reached_next, reached_end}
use Rattle.traces.proofs.walk.check.Goals.{After-is_right}
use Rattle.traces.proofs.walk.check.Goals as goal

pub loop-i-init : goal.loop-i-init
loop-i-init c = record {
  can_next = search rules;
  is_finite = search rules;
  size = search rules;
  reached = rw (c.into_iter-i-iterator.ensures.into_iter_gives, c.enumerate-i-items.ensures.count, c.enumerate-i-items.ensures.source, c.chunks.ensures.rest) (reached_first c.args.trace.now);
}

pub returns-then-not-is_right : goal.returns-then-not-is_right
returns-then-not-is_right c =
    let i = c.loop-i.invariant in
    let steps = c.in-Some.ensures.steps in
    let wrong = rw c.judge-judged.ensures at (sym c.is_right.ensures ∙ c.if-not-is_right.true) in
    c.told_at.ensures
    ∙ rw (c.judge-judged.ensures, steps.1) (reached_told i.reached _ _ steps.0.1.0 (rw i.size at steps.0.1.1) steps.0.1.2 wrong)

pub loop-i-preserved : goal.loop-i-preserved
loop-i-preserved c =
    let i = c.loop-i.invariant in
    let steps = c.in-Some.ensures.steps in
    let right = rw c.judge-judged.ensures at (sym c.is_right.ensures ∙ c.if-not-is_right.false) in
    record {
      can_next = search rules;
      is_finite = search rules;
      size = search rules;
      reached =
          rw (steps.2, c.mode_after-previous.ensures)
          (reached_next i.reached _ _ steps.0.1.0 (rw i.size at steps.0.1.1) steps.0.1.2 right);
    }

pub returns : goal.returns
returns c = c.yes.ensures ∙ reached_end c.loop-i.invariant.reached c.in-None.ensures.steps.0.1.0
