-- `gate_writing::judge_gate` meets its contract: the law for each way out.
use Prim.Native.Nat.{ℕ, ◌+◌, ◌*◌, ◌<◌}
use mathlib.Core.Path.{◌≡◌, ap, ◌∙◌}
use mathlib.Core.List.{List}
use native.Mathlib.Omega.{arith}
use lib.ListN.{get_or}
use Rattle.framing.specs.Refusals.{untold}
use Rattle.profiles.specs.Writing.{entry_refusal}
use Rattle.profiles.proofs.WritingLaws.{entry-wide}
use Rattle.gates.specs.Gates.{gate_profile, distance_width, gate_rules, gate_refusal}
use Rattle.gates.proofs.GateLaws.{regular}
use Rattle.gate_writing.proofs.WritingLaws.{gate-ruled}
use Rattle.gate_writing.proofs.judge_gate.Goals as goal

pub returns-then-from-gt-LAST_HIGH : goal.returns-then-from-gt-LAST_HIGH
returns-then-from-gt-LAST_HIGH c =
    entry-wide gate_profile (regular distance_width (omega arith)) c.args.gate.now 0 (omega arith) (omega arith)

pub returns-then-from-gt1 : goal.returns-then-from-gt1
returns-then-from-gt1 c =
    entry-wide gate_profile (regular distance_width (omega arith)) c.args.gate.now 5 (omega arith) (omega arith)

pub returns-then-from-gt1-2 : goal.returns-then-from-gt1-2
returns-then-from-gt1-2 c =
    entry-wide gate_profile (regular distance_width (omega arith)) c.args.gate.now 7 (omega arith) (omega arith)

-- where the pieces without a limit are narrow enough, the rules of the fields that are judged decide on the gate
ruled : (gate : List ℕ) {number suffix class whistle : ℕ} → ((k : ℕ) → get_or gate k 0 < 256)
    → get_or gate 0 0 < 128 → get_or gate 5 0 < 2 → get_or gate 7 0 < 2
    → number ≡ get_or gate 2 0 * 256 + get_or gate 3 0
    → suffix ≡ get_or gate 4 0 → class ≡ get_or gate 6 0 → whistle ≡ get_or gate 8 0
    → untold (gate_rules distance_width number suffix class whistle) ≡ entry_refusal gate_profile gate
unfolding gate_refusal
ruled gate bytes high manning whistling number suffix class whistle =
    (λ i. untold (gate_rules distance_width (number i) (suffix i) (class i) (whistle i)))
    ∙ gate-ruled distance_width (omega arith) gate bytes high manning whistling

pub returns-in-Ok : goal.returns-in-Ok
returns-in-Ok c =
    ap untold c.in-Ok.ensures
    ∙ ruled c.args.gate.now (λ k. omega (arith, c.type_inv.gate k)) (omega arith) (omega arith) (omega arith) c.pair_at-number.ensures.0 c.from-suffix.ensures c.from-class.ensures c.from-whistle.ensures

pub returns-in-Err : goal.returns-in-Err
returns-in-Err c =
    ap untold c.in-Err.ensures
    ∙ ruled c.args.gate.now (λ k. omega (arith, c.type_inv.gate k)) (omega arith) (omega arith) (omega arith) c.pair_at-number.ensures.0 c.from-suffix.ensures c.from-class.ensures c.from-whistle.ensures
