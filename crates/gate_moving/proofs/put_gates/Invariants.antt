-- `gate_moving::put_gates` meets its contract. The invariant: what is left to put, put, is all the gates.
use Prim.Native.Nat.{ℕ, ◌+◌, ◌-◌, ◌*◌, ◌≤◌}
use mathlib.Core.Path.{◌≡◌}
use mathlib.Core.List.{List}
use lib.ListN.{length}
use lib.Seq.{slice}
use Rattle.numbers.specs.Pieces.{times, pack}
use Rattle.gates.specs.Gates.{gate_widths}
use Rattle.gates.specs.Forms.{layout_of, other_form}
use Rattle.gates.specs.declared.forms.Form.{Form}
use Rattle.gate_reading.specs.Steps.{spread}
use Rattle.gate_moving.specs.Moving.{restated}
use Rattle.gate_moving.proofs.put_gates.Given as goal

-- n gates put from bit p on
abbrev pub all : Form → List ℕ → ℕ → List ℕ → ℕ → List ℕ
all from o p gates n = pack o p (times n (gate_widths (layout_of (other_form from)).distance)) (restated from (spread gates) n)

abbrev pub invariant-loop-gate : goal.invariant-loop-gate
invariant-loop-gate l =
    (l.p ≤ 16 + 35 * l.gate-index)
    × (all l.from l.out l.p (slice l.gate-index (length l.kept) l.kept) (length l.kept - l.gate-index) ≡ all l.from l.initial.out 16 l.kept (length l.kept))
