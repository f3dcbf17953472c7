-- `rules::slots::slots_for` meets its contract.
use mathlib.Core.Path.{◌≡◌, sym, ◌∙◌, ap}
use Prim.Native.Nat.{ℕ, ◌+◌, ◌-◌, ◌/◌, ◌≤◌}
use native.Mathlib.Nat.{div-zero, div-eq_of_lt, add-div_right, div-le_self}
use native.Mathlib.Omega.{arith}
use Rattle.rules.specs.Slots.{slots_for}
use Rattle.rules.proofs.slots.slots_for.Goals as goal

-- by nothing a slot: none
none_carried : (carries bytes : ℕ) → carries ≡ 0 → 0 ≡ slots_for carries bytes
unfolding slots_for
none_carried carries bytes e = sym (ap (λ (k : ℕ). (bytes + (k - 1)) / k) e ∙ div-zero (bytes + (0 - 1)))

-- no bytes need none
none-asked : (carries bytes : ℕ) → (carries ≡ 0 → ⊥) → bytes ≡ 0 → 0 ≡ slots_for carries bytes
unfolding slots_for
none-asked carries bytes n e = sym (div-eq_of_lt (omega arith))

-- rounding up, by one byte less
rounded : (carries bytes : ℕ) → (carries ≡ 0 → ⊥) → (bytes ≡ 0 → ⊥) → (bytes - 1) / carries + 1 ≡ slots_for carries bytes
unfolding slots_for
rounded carries bytes n m =
    let e : bytes - 1 + carries ≡ bytes + (carries - 1) = omega arith in
    sym (add-div_right (bytes - 1) (omega arith)) ∙ ap (λ (k : ℕ). k / carries) e

pub returns-then-carries-eq0 : goal.returns-then-carries-eq0
returns-then-carries-eq0 c = none_carried _ _ c.if-carries-eq0.true

pub returns-then-bytes-eq0 : goal.returns-then-bytes-eq0
returns-then-bytes-eq0 c = none-asked _ _ c.if-carries-eq0.false c.if-bytes-eq0.true

pub returns : goal.returns
returns c = rounded _ _ c.if-carries-eq0.false c.if-bytes-eq0.false

pub overflow_add-result : goal.overflow_add-result
overflow_add-result c = let l : (c.args.bytes - 1) / c.args.carries ≤ c.args.bytes - 1 = div-le_self _ _ in omega (arith, l)
