-- `numbers::half_end` meets its contract: of two numbers side by side the second is 0.
use Prim.Native.Nat.{◌+◌}
use native.Mathlib.Omega.{arith}
use Rattle.numbers.proofs.NumberLaws.{number_split, number_past, number_lt}
use Rattle.numbers.proofs.half_end.Goals as goal

pub overflow_mul-result : goal.overflow_mul-result
overflow_mul-result c = let a = c.args in
    omega (arith, c.byte_at.ensures, number_lt 1 a.s.now a.i)

pub returns : goal.returns
returns c = let a = c.args in
    omega (arith, c.byte_at.ensures, number_split a.s.now a.i 1 1, number_past 1 a.s.now (a.i + 1) (omega arith))
