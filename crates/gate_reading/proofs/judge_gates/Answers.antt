-- `gate_reading::judge_gates` meets its contract: the first gate that is refused has the answer.
use Prim.Native.Nat.{ℕ, ◌<◌, ◌≤◌}
use mathlib.Core.Path.{◌≡◌, sym, ap, subst, ◌∙◌}
use mathlib.Core.List.{List}
use native.Mathlib.Omega.{arith}
use lib.ListN.{length, get_or}
use Rattle.framing.specs.Refusals.{Refusal, not_allowed, moved_by}
use Rattle.gates.specs.Gates.{gate_refusal, gate_bits, bits_with}
use Rattle.gates.specs.Forms.{layout_of}
use Rattle.gates.specs.declared.forms.Layout.{Layout}
use Rattle.gates.proofs.GateLaws.{form_wide, form_narrow, within_gate}
use Rattle.gate_reading.specs.Steps.{digits}
use Rattle.gate_reading.proofs.ReadingLaws.{rules-stop}
use Rattle.gate_reading.proofs.judge_gates.Goals.{In-Err}
use Rattle.gate_reading.proofs.judge_gates.Goals as goal

-- what is judged of the gate, at the form's width
module _ (c : In-Err) where
  abbrev d : ℕ
  d = (layout_of c.args.form).distance

  abbrev gate : List ℕ
  gate = digits (get_or c.args.kept.now c.in-Some.i 0)

  width : c.layout-distance.result.distance ≡ d
  width = ap (λ (l : Layout). l.distance) c.layout-distance.ensures

  judged : not_allowed c.in-Err.bit ≡ gate_refusal d gate
  judged = c.in-Err.ensures ∙ ap (λ (w : ℕ). gate_refusal w gate) width

pub overflow_add-result : goal.overflow_add-result
overflow_add-result c =
    let e = (goal.at.overflow_add-result c).In-Err in
    let small : c.in-Err.bit < gate_bits (d e) = subst (λ (r : Refusal). r.place < gate_bits (d e)) (sym (judged e)) (within_gate (d e) (gate e)) in
    omega (arith, c.in-Some.ensures.there, form_narrow c.args.form)

pub returns-in-Err : goal.returns-in-Err
returns-in-Err c =
    let e = (goal.at.returns-in-Err c).In-Err in
    let kept : List ℕ = c.args.kept.now in
    let i : ℕ = c.in-Some.i in
    let first = c.in-Some.ensures in
    ap (λ (p : ℕ). moved_by p (not_allowed c.in-Err.bit)) (c.bits_of.ensures.0 ∙ ap (λ (w : ℕ). bits_with w i) (width e))
    ∙ rules-stop kept i (length kept) first.there (omega arith) (d e) (bits_with (d e) i) (form_wide c.args.form) (not_allowed c.in-Err.bit) (judged e) (λ z. omega arith)
    ∙ first.first
