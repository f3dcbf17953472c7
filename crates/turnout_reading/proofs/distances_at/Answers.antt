-- `turnout_reading::distances_at` meets its contract.
use Prim.Native.Nat.{◌+◌, min}
use mathlib.Core.Path.{◌≡◌, ap, ◌∙◌}
use native.Mathlib.Omega.{arith}
use Rattle.numbers.specs.Fields.{field}
use Rattle.numbers.specs.Pieces.{total}
use Rattle.turnouts.specs.Turnouts.{behind_speed}
use Rattle.turnout_reading.proofs.ReadingLaws.{distances-small}
use Rattle.turnout_reading.proofs.distances_at.Goals as goal

pub returns : goal.returns
returns c = let a = c.args in
    let width : min c.bits_behind.result 32 ≡ total (behind_speed a.speed) = omega (arith, c.bits_behind.ensures) in
    let e = c.read_field.ensures ∙ ap (field a.s.now (a.p + 5)) width in
    (e, omega (arith, e, distances-small a.s.now (a.p + 5) a.speed))
