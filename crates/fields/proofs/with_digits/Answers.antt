-- `fields::with_digits` meets its contract: no step passes what 64 digits hold.
use Prim.Native.Nat.{ℕ, ◌+◌, ◌-◌, ◌*◌, ◌/◌, ◌%◌, ◌^◌, ◌≤◌, ◌<◌}
use mathlib.Core.Path.{◌≡◌, ap, ap₂, ◌∙◌}
use native.Mathlib.Omega.{arith}
use native.Mathlib.Nat.{mod-lt}
use lib.Pow.{pow_pos, shl_exact}
use Rattle.numbers.proofs.WithinLaws.{with_digits, digits_le, digits_lt}
use Rattle.fields.proofs.with_digits.Goals as goal

-- of plain numbers: the code's span is 2 ^ w
module _ (x m w v span : ℕ) (e : span ≡ 2 ^ w) (h : m + w ≤ 64) where
  shifted : (n : ℕ) → n % span * 2 ^ m % 2 ^ 64 ≡ n % 2 ^ w * 2 ^ m
  shifted n = ap (λ (y : ℕ). n % y * 2 ^ m % 2 ^ 64) e ∙ shl_exact {a = n % 2 ^ w} w m 64 (mod-lt n (pow_pos w)) (omega arith)

  whole : x - x / 2 ^ m % span * 2 ^ m % 2 ^ 64 + v % span * 2 ^ m % 2 ^ 64 ≡ x - x / 2 ^ m % 2 ^ w * 2 ^ m + v % 2 ^ w * 2 ^ m
  whole = ap₂ (λ (a b : ℕ). x - a + b) (shifted (x / 2 ^ m)) (shifted v)

  less : x / 2 ^ m % span * 2 ^ m % 2 ^ 64 ≤ x
  less = omega (arith, shifted (x / 2 ^ m), digits_le x m w)

  bound : x < 2 ^ 64 → x - x / 2 ^ m % span * 2 ^ m % 2 ^ 64 + v % span * 2 ^ m % 2 ^ 64 < 2 ^ 64
  unfolding with_digits
  bound hx =
      let k : ℕ = 64 - w - m in
      let all : k + w + m ≡ 64 = omega arith in
      rw whole (rw all at (digits_lt x m w k v (rw all hx)))

pub nonzero_rem-old : goal.nonzero_rem-old
nonzero_rem-old c = omega (arith, pow_pos c.args.w)

pub nonzero_rem-new : goal.nonzero_rem-new
nonzero_rem-new c = omega (arith, pow_pos c.args.w)

pub overflow_sub-result : goal.overflow_sub-result
overflow_sub-result c = let a = c.args in
    less a.x a.m a.w 0 c.weight-span.result c.weight-span.ensures (omega arith)

pub overflow_add-result : goal.overflow_add-result
overflow_add-result c = let a = c.args in
    omega (arith, bound a.x a.m a.w a.v c.weight-span.result c.weight-span.ensures (omega arith) (omega arith))

pub returns : goal.returns
returns c = let a = c.args in
    whole a.x a.m a.w a.v c.weight-span.result c.weight-span.ensures (omega arith)
