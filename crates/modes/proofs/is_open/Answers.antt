-- `modes::is_open` meets its contract. The loop's invariant: no condition passed is set, so one is set exactly where one of the rest is.
use mathlib.Core.Path.{◌≡◌, ◌∙◌, sym}
use Prim.Native.Nat.{◌-◌}
use native.Mathlib.Omega.{arith}
use lib.ListN.{get_or}
use Rattle.numbers.proofs.NumberLaws.{number-byte}
use Rattle.modes.proofs.Scanning.{any_zero, any_here, any_next}
use Rattle.modes.proofs.is_open.Goals.{After-byte_at}
use Rattle.modes.proofs.is_open.Goals as goal

-- the flag that was looked up
flag : (c : After-byte_at) → c.byte_at.result ≡ get_or c.args.flags.now (c.from.result - 1) 0
flag c = let i = c.from.result - 1 in c.byte_at.ensures ∙ number-byte c.args.flags.now i (omega (arith, c.type_inv.flags i))

pub returns-then-n-eq0 : goal.returns-then-n-eq0
returns-then-n-eq0 c = let l = c.loop-n in
    sym (any_zero _ _ l.n-index c.loop-n-test.true c.if-n-eq0.true) ∙ l.invariant

pub returns-then-byte_at-eq1 : goal.returns-then-byte_at-eq1
returns-then-byte_at-eq1 c = let l = c.loop-n in
    let set = rw c.from.ensures at (sym (flag (goal.at.returns-then-byte_at-eq1 c).After-byte_at) ∙ c.if-byte_at-eq1.true) in
    sym (any_here _ _ l.n-index c.loop-n-test.true c.if-n-eq0.false set) ∙ l.invariant

pub loop-n-preserved : goal.loop-n-preserved
loop-n-preserved c = let l = c.loop-n in
    let clear : get_or c.args.flags.now (c.from.result - 1) 0 ≡ 1 → ⊥ = λ e. c.if-byte_at-eq1.false (flag (goal.at.loop-n-preserved c).After-byte_at ∙ e) in
    sym (any_next _ _ l.n-index c.loop-n-test.true c.if-n-eq0.false (rw c.from.ensures at clear)) ∙ l.invariant
