-- `gate_reading::load_gates` meets its contract: a gate has no more bits than a wide field may have.
use Prim.Native.Nat.{ℕ, ◌+◌, ◌-◌, ◌≤◌}
use mathlib.Core.Path.{◌≡◌, sym, ap, ◌∙◌}
use mathlib.Core.List.{[], ◌∷◌}
use native.Mathlib.Omega.{arith}
use lib.ListN.{length, set, length-set}
use lib.Seq.{sets}
use Rattle.numbers.specs.Fields.{field}
use Rattle.numbers.specs.Pieces.{times, unpack}
use Rattle.numbers.proofs.PieceLaws.{unpack-nil}
use Rattle.gates.specs.Gates.{gate_bits}
use Rattle.gates.specs.declared.forms.Layout.{Layout}
use Rattle.gates.proofs.GateLaws.{form_narrow}
use Rattle.gate_reading.proofs.ReadingLaws.{load_more}
use Rattle.gate_reading.proofs.load_gates.Invariants.{left}
use Rattle.gate_reading.proofs.load_gates.Goals.{After-gate_bits-bits}
use Rattle.gate_reading.proofs.load_gates.Goals as goal

few : (c : After-gate_bits-bits) → c.gate_bits-bits.result ≤ 35
few c = omega (arith, c.gate_bits-bits.ensures, ap (λ (l : Layout). l.distance) c.layout.ensures, form_narrow c.args.form)

pub loop-gate-preserved : goal.loop-gate-preserved
loop-gate-preserved c = let l = c.loop-gate in
    let b : ℕ = c.gate_bits-bits.result in
    let narrow : b ≤ 35 = few (goal.at.loop-gate-preserved c).After-gate_bits-bits in
    let one : c.read_wide.result ≡ field c.args.s.now l.p b = c.read_wide.ensures ∙ ap (field c.args.s.now l.p) (omega arith) in
    let less : length (set l.kept l.gate-index c.read_wide.result) - (l.gate-index + 1) ≡ length l.kept - l.gate-index - 1 = simp length-set (omega arith) in (
      omega arith,
      (λ j. sets (set l.kept l.gate-index (one j)) (l.gate-index + 1) (unpack c.args.s.now (l.p + b) (times (less j) (b ∷ []))))
          ∙ load_more c.args.s.now l.p b (length l.kept - l.gate-index) l.kept l.gate-index (omega arith)
          ∙ l.invariant.1,
    )

pub overflow_add-p : goal.overflow_add-p
overflow_add-p c = omega (arith, few (goal.at.overflow_add-p c).After-gate_bits-bits)

pub returns : goal.returns
unfolding times
returns c = let l = c.loop-gate in
    let b : ℕ = c.gate_bits-bits.result in
    let e : 0 ≡ length l.kept - l.gate-index = omega arith in
    ap (sets l.kept l.gate-index) (sym (unpack-nil c.args.s.now l.p) ∙ ap (left b c.args.s.now l.p) e)
    ∙ l.invariant.1
    ∙ ap (λ (w : ℕ). sets c.args.kept.now 0 (left w c.args.s.now 16 (length c.args.kept.now))) (c.gate_bits-bits.ensures ∙ ap (λ (l : Layout). gate_bits l.distance) c.layout.ensures)
