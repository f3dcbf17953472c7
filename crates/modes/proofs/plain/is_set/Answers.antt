-- `modes::plain::is_set` meets its contract: there is no such condition, or its flag is looked up.
use mathlib.Core.Path.{◌∙◌, ap}
use Prim.Native.Nat.{ℕ, ◌-◌}
use native.Mathlib.Omega.{arith}
use lib.Dec.{eqb}
use borrow.Author.Tests.{ne_eqb}
use Rattle.numbers.proofs.NumberLaws.{number-byte}
use Rattle.modes.proofs.plain.is_set.Goals as goal

pub returns-then-condition-ne0 : goal.returns-then-condition-ne0
returns-then-condition-ne0 c =
    let i = c.args.condition - 1 in
    ap (λ (n : ℕ). eqb n 1) (c.byte_at.ensures ∙ number-byte c.args.flags.now i (omega (arith, c.type_inv.flags i)))
    ∙ simp (ne_eqb _ _ c.if-condition-ne0.true)
