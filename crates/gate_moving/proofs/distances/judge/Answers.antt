-- `gate_moving::distances::judge` meets its contract.
use Prim.Native.Nat.{ℕ, ◌+◌, ◌-◌}
use mathlib.Core.Path.{◌≡◌, refl, sym, ap, ap₂, ◌∙◌}
use mathlib.Core.List.{List}
use native.Mathlib.Omega.{arith}
use lib.ListN.{length, get_or}
use lib.Seq.{slice}
use Rattle.framing.specs.Refusals.{none}
use Rattle.framing.specs.Told.{ground_of, told}
use Rattle.framing.proofs.ToldLaws.{ground-some, passed}
use Rattle.gates.specs.Gates.{gate_bits}
use Rattle.gates.specs.Forms.{layout_of, other_form}
use Rattle.gates.specs.declared.forms.Layout.{Layout}
use Rattle.gates.proofs.GateLaws.{form_narrow}
use Rattle.gate_reading.specs.Steps.{digits, spread}
use Rattle.gate_moving.specs.Moving.{metres_of, distance_refusal, distances_refusal}
use Rattle.gate_moving.proofs.KeptLaws.{distances-none, distances-stop, distances_go}
use Rattle.gate_moving.proofs.distances.judge.Goals.{After-judge_distance, After-gate_bits-bits}
use Rattle.gate_moving.proofs.distances.judge.Goals as goal

-- the distance that is judged is the one of the gate at hand, in the other form
judged : (c : After-judge_distance)
    → told c.judge_distance.result ≡ distance_refusal (other_form c.args.from) c.loop-gate.p (metres_of c.args.from (digits (get_or c.args.kept.now c.loop-gate.gate-index 0)))
judged c = c.judge_distance.ensures ∙ (λ i. distance_refusal (c.other.ensures i) c.loop-gate.p (c.metres_of.ensures.0 i))

-- a gate of either form has at most 35 bits
bits_eq : (c : After-gate_bits-bits) → c.gate_bits-bits.result ≡ gate_bits (layout_of c.args.from).distance
bits_eq c = c.gate_bits-bits.ensures ∙ ap (λ (l : Layout). gate_bits l.distance) c.layout.ensures

pub returns-in_err-judge_distance : goal.returns-in_err-judge_distance
returns-in_err-judge_distance c = let l = c.loop-gate in
    let a = c.args in
    passed _ _ c.from_residual.ensures.1
    ∙ distances-stop a.from a.kept.now l.gate-index (length a.kept.now) (omega arith) (omega arith) l.p (ground_of c.in_err-judge_distance.field-0.0)
    (ap told (sym c.in_err-judge_distance.was) ∙ judged (goal.at.returns-in_err-judge_distance c).After-judge_distance)
    (ground-some c.in_err-judge_distance.field-0.0)
    ∙ l.invariant.1

pub loop-gate-preserved : goal.loop-gate-preserved
loop-gate-preserved c = let l = c.loop-gate in
    let a = c.args in
    let n : ℕ = length a.kept.now in
    let bits = bits_eq (goal.at.loop-gate-preserved c).After-gate_bits-bits in
    let less : n - (l.gate-index + 1) ≡ n - l.gate-index - 1 = omega arith in (
      omega (arith, bits, form_narrow a.from),
      ap₂ (λ (b k : ℕ). distances_refusal a.from (l.p + b) (spread (slice (l.gate-index + 1) n a.kept.now)) k) bits less
          ∙ distances_go a.from a.kept.now l.gate-index n (omega arith) (omega arith) l.p none (ap told (sym c.in_ok-judge_distance.was) ∙ judged (goal.at.loop-gate-preserved c).After-judge_distance) refl
          ∙ l.invariant.1,
    )

pub overflow_add-p : goal.overflow_add-p
overflow_add-p c = omega (arith, bits_eq (goal.at.overflow_add-p c).After-gate_bits-bits, form_narrow c.args.from)

pub returns : goal.returns
returns c = let l = c.loop-gate in
    let a = c.args in
    let n : ℕ = length a.kept.now in
    let left : List ℕ = spread (slice l.gate-index n a.kept.now) in
    let e : 0 ≡ n - l.gate-index = omega arith in
    sym (distances-none a.from l.p left) ∙ ap (distances_refusal a.from l.p left) e ∙ l.invariant.1
