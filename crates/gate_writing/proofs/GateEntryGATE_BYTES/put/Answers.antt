-- `Gate::put` meets its contract: the number that is put has the pieces as its digits.
use Prim.Native.Nat.{ℕ, min}
use mathlib.Core.Path.{◌≡◌, ap, ◌∙◌}
use native.Mathlib.Omega.{arith}
use Rattle.numbers.specs.Fields.{put}
use Rattle.numbers.specs.Pieces.{total}
use Rattle.gates.specs.Gates.{distance_width, gate_widths}
use Rattle.gates.proofs.GateLaws.{total-gate}
use Rattle.gate_writing.proofs.GateEntryGATE_BYTES.put.Goals as goal

pub returns : goal.returns
unfolding gate_widths
returns c =
    let a = c.args in
    let bits = c.gate_bits-bits in
    let width : min bits.result 57 ≡ total (gate_widths distance_width) = omega (arith, bits.ensures, total-gate distance_width (omega arith)) in record {
      value = (omega (arith, bits.ensures, total-gate distance_width (omega arith)), omega (arith, bits.ensures));
      out_after = c.write_wide.ensures
          ∙ ap (λ (n : ℕ). put a.out.now a.p n c.number_of.result) width
          ∙ c.number_of.ensures a.out.now a.p (λ k. omega (arith, c.slice_known-1.given k));
    }
