-- `gate_reading::fill_gates` meets its contract.
use Prim.Native.Nat.{ℕ, ◌+◌, ◌*◌}
use mathlib.Core.Path.{◌≡◌, sym, ap, ◌∙◌}
use mathlib.Core.List.{List}
use native.Mathlib.Omega.{arith}
use lib.ListN.{length}
use lib.Seq.{sets, slice, slice_empty}
use Rattle.gates.specs.Gates.{gate_bytes}
use Rattle.gate_reading.specs.Steps.{spread}
use Rattle.gate_reading.proofs.ReadingLaws.{fill_more}
use Rattle.gate_reading.proofs.fill_gates.Goals as goal

pub loop-i-preserved : goal.loop-i-preserved
loop-i-preserved c = let l = c.loop-i in
    let kept : List ℕ = c.args.kept.now in
    let next : gate_bytes * (l.i + 1) ≡ gate_bytes * l.i + gate_bytes = omega arith in
    (λ j. sets (c.fill_gate.ensures j) (next j) (spread (slice (l.i + 1) (length kept) kept)))
    ∙ fill_more kept l.i (length kept) (omega arith) (omega arith) l.out (gate_bytes * l.i)
    ∙ l.invariant

pub returns : goal.returns
unfolding spread
returns c = let l = c.loop-i in
    let kept : List ℕ = c.args.kept.now in
    let e : length kept ≡ l.i = omega arith in
    ap (λ v. sets l.out (gate_bytes * l.i) (spread v)) (sym (slice_empty (length kept) kept) ∙ ap (λ (k : ℕ). slice k (length kept) kept) e) ∙ l.invariant
