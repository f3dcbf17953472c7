-- `profiles::padding_of` meets its contract: the bits that fill up a byte are its low digits.
use Prim.Native.Nat.{ℕ, ◌*◌, ◌%◌, ◌^◌}
use mathlib.Core.Path.{◌≡◌, ◌∙◌}
use native.Mathlib.Nat.{one-mul}
use native.Mathlib.Omega.{arith}
use lib.Pow.{pow_pos, shl_exact}
use Rattle.profiles.proofs.ReadingLaws.{padding_width, padding_byte}
use Rattle.profiles.proofs.padding_of.Goals as goal

-- the shift loses nothing
limit : (bits : ℕ) → 1 * 2 ^ padding_width bits % 2 ^ 32 ≡ 2 ^ padding_width bits
limit bits = shl_exact {a = 1} 1 (padding_width bits) 32 (omega arith) (omega arith) ∙ one-mul _

pub returns : goal.returns
returns c = let a = c.args in
    (λ i. c.byte_at.ensures i % limit a.bits i) ∙ padding_byte a.s.now a.bits

pub nonzero_rem-result : goal.nonzero_rem-result
nonzero_rem-result c = omega (arith, limit c.args.bits, pow_pos (padding_width c.args.bits))
