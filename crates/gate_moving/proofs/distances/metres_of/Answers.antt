-- `gate_moving::distances::metres_of` meets its contract: two bytes are one number, and the form says what one of it means.
use Prim.Native.Nat.{ℕ, ◌*◌, ◌/◌, ◌%◌, ◌≤◌}
use mathlib.Core.Path.{◌≡◌, ap, ap₂}
use native.Mathlib.Nat.{mul-le-mul}
use native.Mathlib.Omega.{arith}
use Rattle.gates.specs.Forms.{layout_of}
use Rattle.gates.specs.declared.forms.Layout.{Layout}
use Rattle.gates.proofs.GateLaws.{form_unit}
use Rattle.gate_moving.proofs.KeptLaws.{two_bytes}
use Rattle.gate_moving.proofs.distances.metres_of.Goals.{After-layout}
use Rattle.gate_moving.proofs.distances.metres_of.Goals as goal

unit : (c : After-layout) → c.layout.result.unit ≡ (layout_of c.args.form).unit
unit c = ap (λ (l : Layout). l.unit) c.layout.ensures

small : (c : After-layout) → c.args.gate / 1048576 % 65536 * c.layout.result.unit ≤ 655350
small c =
    omega (
      arith,
      mul-le-mul {n₁ = c.args.gate / 1048576 % 65536} {m₁ = c.layout.result.unit} {n₂ = 65535} {m₂ = 10} (omega arith)
          (omega (arith, unit c, (form_unit c.args.form).1)),
    )

pub overflow_mul-result : goal.overflow_mul-result
overflow_mul-result c = omega (arith, small (goal.at.overflow_mul-result c).After-layout)

pub returns : goal.returns
returns c = (ap₂ (λ (a b : ℕ). a * b) (two_bytes (c.args.gate / 1048576)) (unit (goal.at.returns c).After-layout), small (goal.at.returns c).After-layout)
