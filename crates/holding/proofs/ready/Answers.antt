-- `holding::ready` meets its contract.
use mathlib.Core.Path.{◌≡◌}
use Prim.Native.Nat.{ℕ}
use native.Mathlib.Omega.{arith}
use Rattle.holding.proofs.HeldLaws.{within_enough, read-ready, read-taken, stays-ready, stays-taken}
use Rattle.holding.proofs.ready.Goals as goal
use Rattle.holding.proofs.ready.Goals.{then-held-via-then-held, then-held-via-else-held+then-longest-kept}

pub returns-then-held-clause-value : goal.returns-then-held-clause-value
returns-then-held-clause-value g c =
    let a = c.args in
    let e = c.within-at.ensures in
    elim c.then-held.branch [
      | then-held-via-then-held w ↦ stays-ready a.longest a.buffer.now a.held
          (λ more. let z : ◌≡◌ {A = ℕ} 0 1 = cc w.if-held.true in absurd (omega arith))
      | then-held-via-else-held+then-longest-kept w ↦ stays-ready a.longest a.buffer.now a.held
          (λ more. within_enough a.buffer.now a.held.at a.held.end _ _ a.longest e.end e.at w.if-longest-kept.true)
    ]

pub returns-clause-value : goal.returns-clause-value
returns-clause-value g c =
    let a = c.args in
    let e = c.within-at.ensures in
    read-ready a.longest a.buffer.now _ _ a.held c.read_on.result _ _ e.end e.at c.if-held.false c.copy_within.ensures.after c.read_on.ensures.value

pub returns-then-held-clause-taken : goal.returns-then-held-clause-taken
returns-then-held-clause-taken g c = stays-taken _ c.args.buffer.now c.args.held

pub returns-clause-taken : goal.returns-clause-taken
returns-clause-taken g c =
    let a = c.args in
    let e = c.within-at.ensures in
    rw (read-taken a.longest a.buffer.now _ _ a.held c.read_on.result _ _ e.end e.at c.if-held.false c.copy_within.ensures.after c.read_on.ensures.value)
    c.read_on.ensures.taken
