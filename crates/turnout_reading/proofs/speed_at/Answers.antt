-- `turnout_reading::speed_at` meets its contract.
use native.Mathlib.Omega.{arith}
use Rattle.numbers.proofs.FieldLaws.{field_lt}
use Rattle.turnout_reading.proofs.speed_at.Goals as goal

pub returns : goal.returns
returns c = let a = c.args in
    (c.read_field.ensures, omega (arith, c.read_field.ensures, field_lt a.s.now a.p 5))
