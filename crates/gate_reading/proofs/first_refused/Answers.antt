-- `gate_reading::first_refused` meets its contract.
use Prim.Native.Nat.{ℕ, ◌+◌, ◌-◌, ◌<◌}
use mathlib.Core.Path.{◌≡◌, sym, ap, subst, ◌∙◌}
use mathlib.Core.List.{List}
use native.Mathlib.Omega.{arith}
use lib.ListN.{length, get_or}
use lib.Seq.{slice}
use Rattle.framing.proofs.RefusalLaws.{same_number}
use Rattle.profiles.specs.Profiles.{rules_refusal}
use Rattle.profiles.proofs.ProfileLaws.{rules-none}
use Rattle.gates.specs.Gates.{gate_profile_with, bits_with, gate_refusal, told_field}
use Rattle.gates.specs.Forms.{layout_of}
use Rattle.gates.specs.declared.forms.Layout.{Layout}
use Rattle.gates.proofs.GateLaws.{bits-suc, form_wide}
use Rattle.gate_reading.specs.Steps.{digits, spread, rules_from}
use Rattle.gate_reading.proofs.ReadingLaws.{rules_go, field_right, field_wrong}
use Rattle.gate_reading.proofs.first_refused.Goals.{After-layout-distance}
use Rattle.gate_reading.proofs.first_refused.Goals as goal

width : (c : After-layout-distance) → c.layout-distance.result.distance ≡ (layout_of c.args.form).distance
width c = ap (λ (l : Layout). l.distance) c.layout-distance.ensures

pub loop-i-preserved : goal.loop-i-preserved
loop-i-preserved c = let kept : List ℕ = c.args.kept.now in
    let i : ℕ = c.loop-i.i in
    let d : ℕ = c.layout-distance.result.distance in
    let less : length kept - (i + 1) ≡ length kept - i - 1 = omega arith in
    (λ j. rules_refusal (gate_profile_with d) (bits-suc d i j) (spread (slice (i + 1) (length kept) kept)) (less j))
    ∙ rules_go kept i (length kept) (omega arith) (omega arith) d (bits_with d i) (omega (arith, width (goal.at.loop-i-preserved c).After-layout-distance, form_wide c.args.form)) (told_field c.judge_gate.result) c.judge_gate.ensures (field_right c.judge_gate.result (sym c.is_err.ensures.value ∙ c.if-is_err.false))
    ∙ c.loop-i.invariant

pub returns-then-is_err : goal.returns-then-is_err
returns-then-is_err c =
    let d = width (goal.at.returns-then-is_err c).After-layout-distance in
    let kept : List ℕ = c.args.kept.now in record {
      there = omega arith;
      refused = λ z. field_wrong c.judge_gate.result (sym c.is_err.ensures.value ∙ c.if-is_err.true) (same_number (c.judge_gate.ensures) ∙ subst (λ (w : ℕ). (gate_refusal w (digits (get_or kept c.loop-i.i 0))).number ≡ 0) (sym d) z);
      first = subst (λ (w : ℕ). rules_from w kept (length kept) c.loop-i.i ≡ rules_refusal (gate_profile_with w) 16 (spread kept) (length kept)) d c.loop-i.invariant;
    }

pub returns : goal.returns
returns c =
    let d = width (goal.at.returns c).After-layout-distance in
    let kept : List ℕ = c.args.kept.now in
    let w : ℕ = c.layout-distance.result.distance in
    let i : ℕ = c.loop-i.i in
    let rest : List ℕ = spread (slice i (length kept) kept) in
    let e : 0 ≡ length kept - i = omega arith in
    sym (rules-none (gate_profile_with w) (bits_with w i) rest)
    ∙ ap (rules_refusal (gate_profile_with w) (bits_with w i) rest) e
    ∙ c.loop-i.invariant
    ∙ ap (λ (k : ℕ). rules_refusal (gate_profile_with k) 16 (spread kept) (length kept)) d
