-- `Gate::begin` meets its contract: the count alone tells the bytes.
use Prim.Native.Nat.{ℕ}
use mathlib.Core.Path.{◌≡◌, sym, ap, ◌∙◌}
use native.Mathlib.Omega.{arith}
use Rattle.profiles.specs.Profiles.{bytes_for}
use Rattle.profiles.specs.Writing.{size_for}
use Rattle.gates.specs.Gates.{gate_profile, distance_width, bits_with, header_put}
use Rattle.gates.proofs.GateLaws.{bits_for_lem}
use Rattle.gate_writing.proofs.GateEntryGATE_BYTES.begin.Goals as goal

pub returns : goal.returns
unfolding header_put
returns c =
    let a = c.args in
    let size : bytes_for (bits_with distance_width a.n) ≡ size_for gate_profile a.list.now a.n = ap bytes_for (sym (bits_for_lem distance_width (omega arith) a.list.now a.n)) in record {
      value = c.put_header.ensures.value ∙ size;
      out_after = c.put_header.ensures.out_after ∙ ap (λ (b : ℕ). header_put b a.n a.out.now) size;
    }
