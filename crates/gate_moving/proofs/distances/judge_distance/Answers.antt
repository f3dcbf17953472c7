-- `gate_moving::distances::judge_distance` meets its contract: the two tests, one after the other.
use Prim.Native.Nat.{ℕ, ◌%◌}
use mathlib.Core.Path.{◌≡◌, ap}
use native.Mathlib.Omega.{arith}
use Rattle.framing.proofs.RefusalLaws.{below, not_below, last_below, last_not_below}
use Rattle.gates.specs.Forms.{layout_of}
use Rattle.gates.specs.declared.forms.Layout.{Layout}
use Rattle.gates.proofs.GateLaws.{form_unit}
use Rattle.gate_moving.specs.Moving.{distance_refusal}
use Rattle.gate_moving.proofs.distances.judge_distance.Goals.{After-layout-layout}
use Rattle.gate_moving.proofs.distances.judge_distance.Goals as goal

unit : (c : After-layout-layout) → c.layout-layout.result.unit ≡ (layout_of c.args.to).unit
unit c = ap (λ (l : Layout). l.unit) c.layout-layout.ensures

farthest : (c : After-layout-layout) → c.layout-layout.result.farthest ≡ (layout_of c.args.to).farthest
farthest c = ap (λ (l : Layout). l.farthest) c.layout-layout.ensures

rest_eq : (c : After-layout-layout) → c.args.metres % c.layout-layout.result.unit ≡ c.args.metres % (layout_of c.args.to).unit
rest_eq c = ap (λ (u : ℕ). c.args.metres % u) (unit c)

pub returns-then-metres-layout-gt0 : goal.returns-then-metres-layout-gt0
unfolding distance_refusal
returns-then-metres-layout-gt0 c = below 0 (c.args.metres % (layout_of c.args.to).unit) _ (omega (arith, c.if-metres-layout-gt0.true, rest_eq (goal.at.returns-then-metres-layout-gt0 c).After-layout-layout))

pub returns-then-layout-metres : goal.returns-then-layout-metres
unfolding distance_refusal
returns-then-layout-metres c = not_below 0 (c.args.metres % (layout_of c.args.to).unit) _ _ (omega (arith, c.if-metres-layout-gt0.false, rest_eq (goal.at.returns-then-layout-metres c).After-layout-layout))
    (last_below (layout_of c.args.to).farthest c.args.metres _ (omega (arith, c.if-layout-metres.true, farthest (goal.at.returns-then-layout-metres c).After-layout-layout)))

pub returns : goal.returns
unfolding distance_refusal
returns c = not_below 0 (c.args.metres % (layout_of c.args.to).unit) _ _ (omega (arith, c.if-metres-layout-gt0.false, rest_eq (goal.at.returns c).After-layout-layout))
    (last_not_below (layout_of c.args.to).farthest c.args.metres _ (omega (arith, c.if-layout-metres.false, farthest (goal.at.returns c).After-layout-layout)))

pub nonzero_rem-metres : goal.nonzero_rem-metres
nonzero_rem-metres c = omega (arith, unit (goal.at.nonzero_rem-metres c).After-layout-layout, (form_unit c.args.to).0)
