-- `numbers::word_end` meets its contract: two numbers side by side, of which the second has one byte at most.
use Prim.Native.Nat.{◌+◌}
use mathlib.Core.Path.{sym}
use native.Mathlib.Omega.{arith}
use Rattle.numbers.proofs.NumberLaws.{number_split, number_past, number_lt}
use Rattle.numbers.proofs.word_end.Goals as goal

pub returns-then-s-i : goal.returns-then-s-i
returns-then-s-i c = sym (number_past 4 _ _ c.if-s-i.true)

pub returns : goal.returns
returns c = let a = c.args in
    omega (
      arith,
      c.half_at.ensures,
      c.byte_at.ensures,
      number_split a.s.now a.i 2 2,
      number_split a.s.now (a.i + 2) 1 1,
      number_past 1 a.s.now (a.i + 2 + 1) (omega arith),
    )

pub overflow_mul-result : goal.overflow_mul-result
overflow_mul-result c = let a = c.args in
    omega (arith, c.half_at.ensures, number_lt 2 a.s.now a.i)

pub overflow_mul-result-2 : goal.overflow_mul-result-2
overflow_mul-result-2 c = let a = c.args in
    omega (arith, c.byte_at.ensures, number_lt 1 a.s.now (a.i + 2))

pub overflow_add-result : goal.overflow_add-result
overflow_add-result c = let a = c.args in
    omega (arith, c.half_at.ensures, c.byte_at.ensures, number_lt 2 a.s.now a.i, number_lt 1 a.s.now (a.i + 2))
