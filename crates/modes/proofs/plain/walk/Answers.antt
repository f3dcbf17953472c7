-- `modes::plain::walk` meets its contract. The loop's invariant: the best so far is that of the transitions passed.
use mathlib.Core.Path.{◌≡◌, ap, ◌∙◌, sym}
use native.Mathlib.Omega.{arith}
use Rattle.std.specs.Prelude.{Option, Some}
use Rattle.transitions.proofs.Held.{transition_at}
use Rattle.modes.specs.declared.plain.Best.{Best}
use Rattle.modes.specs.Plain.{passed}
use Rattle.modes.proofs.Passing.{passed_over, passed-weighed, best_none, best-more, best-all}
use Rattle.modes.proofs.plain.walk.Goals as goal
use Rattle.modes.proofs.plain.walk.Goals.{then-counts, else-counts}

pub loop-t-init : goal.loop-t-init
loop-t-init c = sym (best_none c.args.mode c.args.flags.now)

-- a turn passes one transition: it counts and is weighed, or it is passed over
pub loop-t-preserved : goal.loop-t-preserved
loop-t-preserved c =
    let m = c.args.mode in
    let fs = c.args.flags.now in
    let t = c.loop-t.t in
    let best = c.loop-t.best in
    let turn : c.if-counts.best ≡ passed m fs best (transition_at t) =
    elim c.if-counts.branch [
      | then-counts w ↦
          w.best-is
          ∙ ap (λ (b : Best). Some b) (w.weigh.ensures ∙ rw (w.from-target.ensures, w.from-priority.ensures, c.all-transition-items.ensures))
          ∙ sym (passed-weighed t (omega arith) m fs best (sym c.counts.ensures ∙ w.if-counts.true))
      | else-counts w ↦ w.best-is ∙ sym (passed_over t (omega arith) m fs best (sym c.counts.ensures ∙ w.if-counts.false))
    ] in
    turn
    ∙ ap (λ (b : Option Best). passed m fs b (transition_at t)) c.loop-t.invariant
    ∙ sym (best-more m fs t (omega arith))

pub returns : goal.returns
returns c = c.loop-t.invariant ∙ best-all c.args.mode c.args.flags.now c.loop-t.t (omega arith)
