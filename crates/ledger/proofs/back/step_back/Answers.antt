-- `ledger::back::step_back` meets its contract. The invariant: what is left to undo, undone, is all of it.
use mathlib.Core.Path.{◌≡◌, sym, ◌∙◌}
use Prim.Native.Nat.{ℕ, ◌+◌, ◌-◌}
use borrow.Author.Tests.{eqb-true}
use native.Mathlib.Omega.{arith}
use Rattle.ledger.specs.Back.{stepped_by}
use Rattle.ledger.proofs.BackLaws.{stepped_by-one, stepped_by-none}
use Rattle.ledger.proofs.BoundsLaws.{stepped_in_lem}
use Rattle.ledger.proofs.back.step_back.Goals as goal

pub loop-preserved : goal.loop-preserved
loop-preserved c =
    let l = c.loop in
    let left : ℕ = c.args.k - l.counter in
    let less : c.args.k - (l.counter + 1) ≡ left - 1 = omega arith in
    (λ i. stepped_by (less i) (c.step_one.ensures i)) ∙ stepped_by-one left l.s (omega arith) ∙ l.invariant

pub returns : goal.returns
returns c =
    let l = c.loop in
    stepped_by-none (c.args.k - l.counter) l.s (omega arith)
    ∙ l.invariant
    ∙ sym (stepped_in_lem _ _ (eqb-true _ _ (sym c.is_session.ensures ∙ c.if-not-is_session.false)))
