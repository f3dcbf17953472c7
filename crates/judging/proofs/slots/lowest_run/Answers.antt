-- `judging::slots::lowest_run` meets its contract: the starts below were passed, and what is left of the run is as free as all of it.
use mathlib.Core.Path.{refl, sym, ap, ◌∙◌}
use Prim.Native.Nat.{ℕ}
use Rattle.rules.specs.Slots.{is_run}
use native.Mathlib.Omega.{arith}
use Rattle.store.specs.Stands.{book_of}
use Rattle.judging.proofs.SlotLaws.{run-all, run_more, run_not, run_end, passed_none, passed-more, passed-all, passed_hit}
use borrow.Author.Rules.{rules}
use Rattle.judging.proofs.slots.lowest_run.Goals as goal

pub starts-init : goal.starts-init
starts-init c = (search rules, search rules, passed_none _ _)

pub loop-slot-init : goal.loop-slot-init
loop-slot-init c = (refl, run-all (book_of c.args.s.now) c.args.n c.starts.start)

pub starts-preserved : goal.starts-preserved
starts-preserved c = let v = c.loop-slot.invariant in
    let w = c.starts.invariant in
    let here = v.0 in (
      search rules,
      omega (arith, here, c.if-start-gt-LAST_SLOT.false),
      passed-more _ _ _ _ here (omega (arith, here, c.if-start-gt-LAST_SLOT.false))
          (ap (λ (k : ℕ). is_run (book_of c.args.s.now) k c.args.n) (sym here) ∙ v.1 ∙ run_not _ _ _ c.loop-slot-test.true (sym c.is_free.ensures ∙ c.if-not-is_free.true)) w.2,
    )

pub loop-slot-preserved : goal.loop-slot-preserved
loop-slot-preserved c = let v = c.loop-slot.invariant in (
  v.0,
  v.1 ∙ run_more _ _ _ c.loop-slot-test.true (sym c.is_free.ensures ∙ c.if-not-is_free.false),
)

pub returns-after-loop-slot : goal.returns-after-loop-slot
returns-after-loop-slot c = let v = c.loop-slot.invariant in
    let here = v.0 in
    passed_hit _ _ _ _ here c.if-start-gt-LAST_SLOT.false
    (ap (λ (k : ℕ). is_run (book_of c.args.s.now) k c.args.n) (sym here) ∙ v.1 ∙ run_end _ _ _ c.loop-slot-test.false) c.starts.invariant.2

pub returns-then-start-gt-LAST_SLOT : goal.returns-then-start-gt-LAST_SLOT
returns-then-start-gt-LAST_SLOT c = passed-all _ _ _ c.if-start-gt-LAST_SLOT.true c.starts.invariant.2
