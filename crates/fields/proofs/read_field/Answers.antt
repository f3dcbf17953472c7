-- `fields::read_field` meets its contract: 32 bits are no more than a wide field may have.
use Prim.Native.Nat.{min}
use mathlib.Core.Path.{◌≡◌, ap, ◌∙◌}
use native.Mathlib.Omega.{arith}
use native.Mathlib.Nat.{lt_of_lt_of_le}
use lib.Pow.{pow_mono}
use Rattle.numbers.specs.Fields.{field}
use Rattle.numbers.proofs.FieldLaws.{field_lt}
use Rattle.fields.proofs.read_field.Goals as goal

pub returns : goal.returns
returns c = let a = c.args in
    let e : min c.min.result 57 ≡ min a.width 32 = omega arith in
    c.read_wide.ensures ∙ ap (field a.s.now a.at) e

pub overflow_cast-result : goal.overflow_cast-result
overflow_cast-result c = let a = c.args in
    omega (arith, returns c, lt_of_lt_of_le (field_lt a.s.now a.at (min a.width 32)) (pow_mono {i = min a.width 32} {j = 32} (omega arith)))
