-- `gate_moving::put_gate` meets its contract: the number that is put has the pieces as its digits.
use Prim.Native.Nat.{min}
use mathlib.Core.Path.{◌≡◌, ap, ◌∙◌}
use native.Mathlib.Omega.{arith}
use Rattle.numbers.specs.Fields.{put}
use Rattle.gates.specs.Gates.{gate_bits}
use Rattle.gates.specs.Forms.{layout_of, other_form}
use Rattle.gates.specs.declared.forms.Layout.{Layout}
use Rattle.gates.proofs.GateLaws.{form_narrow}
use Rattle.gate_moving.proofs.KeptLaws.{one-put}
use Rattle.gate_moving.proofs.put_gate.Goals.{After-gate_bits-bits}
use Rattle.gate_moving.proofs.put_gate.Goals as goal

bits_eq : (c : After-gate_bits-bits) → c.gate_bits-bits.result ≡ gate_bits (layout_of (other_form c.args.from)).distance
bits_eq c = c.gate_bits-bits.ensures ∙ ap (λ (l : Layout). gate_bits l.distance) (c.layout.ensures ∙ ap layout_of c.other.ensures)

pub returns : goal.returns
returns c =
    let made = c in
    let bits = made in
    let known = bits in
    let a = known.args in
    let width : min bits.gate_bits-bits.result 57 ≡ gate_bits (layout_of (other_form a.from)).distance = omega (arith, bits_eq (goal.at.returns c).After-gate_bits-bits, form_narrow (other_form a.from)) in
    made.write_wide.ensures ∙ (λ i. put a.out.now a.p (width i) (made.restated.ensures i))
    ∙ one-put a.from a.gate a.out.now a.p (λ k. omega (arith, known.slice_known-1.given k))
