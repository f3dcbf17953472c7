-- `gates::put_header` meets its contract.
use Prim.Native.Nat.{ℕ, ◌+◌, ◌-◌, ◌*◌, ◌/◌, ◌%◌}
use mathlib.Core.Path.{◌≡◌, ap, ◌∙◌}
use mathlib.Core.List.{List, [], ◌∷◌}
use native.Mathlib.Omega.{arith}
use Rattle.numbers.specs.{Pieces.pack, Numbers.put_number}
use Rattle.profiles.specs.Profiles.{bytes_for}
use Rattle.gates.specs.Gates.{gate_type, bits_with, header_put}
use Rattle.gates.proofs.PutLaws.{header_put_lem}
use Rattle.gates.proofs.put_header.Goals as goal

pub returns : goal.returns
unfolding header_put
returns c =
    let a = c.args in
    let bytes : (c.bits_of.result + 7) / 8 ≡ bytes_for (bits_with a.distance a.n) = ap bytes_for c.bits_of.ensures.0 in record {
      value = bytes;
      out_after = c.put_half.ensures
          ∙ (λ i. put_number 2 c.put_byte.new.out 0 (gate_type * 4096 + bytes i % 128 * 32 + a.n % 32))
          ∙ header_put_lem c.put_byte.new.out (bytes_for (bits_with a.distance a.n)) a.n (λ k. omega (arith, c.slice_known-2-1.given k))
          ∙ ap (λ (o : List ℕ). pack o 0 (4 ∷ 7 ∷ 5 ∷ []) (gate_type ∷ bytes_for (bits_with a.distance a.n) ∷ a.n ∷ [])) (c.put_byte.ensures ∙ ap (λ (b : ℕ). put_number 1 a.out.now (b - 1) 0) bytes);
    }
