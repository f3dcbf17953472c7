-- `gate_moving::put_gates` meets its contract.
use Prim.Native.Nat.{ℕ, ◌+◌, ◌-◌}
use mathlib.Core.Path.{◌≡◌, sym, ap, ◌∙◌}
use mathlib.Core.List.{List}
use native.Mathlib.Omega.{arith}
use lib.ListN.{length}
use lib.Seq.{slice}
use Rattle.numbers.specs.Pieces.{times}
use Rattle.numbers.proofs.PieceLaws.{pack-zero}
use Rattle.gates.specs.Gates.{gate_bits}
use Rattle.gates.specs.Forms.{layout_of, other_form}
use Rattle.gates.specs.declared.forms.Layout.{Layout}
use Rattle.gates.proofs.GateLaws.{form_narrow}
use Rattle.gate_moving.proofs.KeptLaws.{put-more}
use Rattle.gate_moving.proofs.put_gates.Goals.{After-gate_bits-bits}
use Rattle.gate_moving.proofs.put_gates.Invariants.{all}
use Rattle.gate_moving.proofs.put_gates.Goals as goal

bits_eq : (c : After-gate_bits-bits) → c.gate_bits-bits.result ≡ gate_bits (layout_of (other_form c.args.from)).distance
bits_eq c = c.gate_bits-bits.ensures ∙ ap (λ (l : Layout). gate_bits l.distance) (c.layout.ensures ∙ ap layout_of c.other.ensures)

pub overflow_add-p : goal.overflow_add-p
overflow_add-p c = omega (arith, bits_eq (goal.at.overflow_add-p c).After-gate_bits-bits, form_narrow (other_form c.args.from))

pub loop-gate-preserved : goal.loop-gate-preserved
loop-gate-preserved c = let l = c.loop-gate in
    let a = c.args in
    let kept : List ℕ = a.kept.now in
    let bits = bits_eq (goal.at.loop-gate-preserved c).After-gate_bits-bits in
    let less : length kept - (l.gate-index + 1) ≡ length kept - l.gate-index - 1 = omega arith in (
      omega (arith, bits, form_narrow (other_form a.from)),
      (λ j. all a.from (c.put_gate.ensures j) (l.p + bits j) (slice (l.gate-index + 1) (length kept) kept) (less j))
          ∙ put-more a.from kept l.gate-index (length kept) (omega arith) (omega arith) l.out l.p
          ∙ l.invariant.1,
    )

pub returns : goal.returns
unfolding times
returns c = let l = c.loop-gate in
    let a = c.args in
    let kept : List ℕ = a.kept.now in
    let e : 0 ≡ length kept - l.gate-index = omega arith in
    sym (pack-zero l.out l.p _) ∙ ap (all a.from l.out l.p (slice l.gate-index (length kept) kept)) e ∙ l.invariant.1
