-- `gate_moving::distances::restated` meets its contract.
use Prim.Native.Nat.{ℕ, ◌+◌, ◌*◌, ◌/◌, ◌%◌}
use mathlib.Core.Path.{◌≡◌, ap, ap₂, ◌∙◌}
use native.Mathlib.Omega.{arith}
use Rattle.gates.specs.Forms.{layout_of, other_form}
use Rattle.gates.specs.declared.forms.Layout.{Layout}
use Rattle.gates.proofs.GateLaws.{form_unit}
use Rattle.gate_moving.proofs.distances.restated.Goals.{After-layout}
use Rattle.gate_moving.proofs.distances.restated.Goals as goal

unit : (c : After-layout) → c.layout.result.unit ≡ (layout_of (other_form c.args.from)).unit
unit c = ap (λ (l : Layout). l.unit) (c.layout.ensures ∙ ap layout_of c.other.ensures)

pub nonzero_div-distance : goal.nonzero_div-distance
nonzero_div-distance c = omega (arith, unit (goal.at.nonzero_div-distance c).After-layout, (form_unit (other_form c.args.from)).0)

pub returns : goal.returns
returns c =
    let a = c.args in
    ap (λ (d : ℕ). d * 1048576 + a.gate % 1048576) c.from.ensures
    ∙ ap₂ (λ (m u : ℕ). m / u % 65536 * 1048576 + a.gate % 1048576) c.metres_of.ensures.0 (unit (goal.at.returns c).After-layout)
