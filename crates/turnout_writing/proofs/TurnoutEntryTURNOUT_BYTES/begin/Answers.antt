-- `Turnout::begin` meets its contract: type, length and count are one number.
use Prim.Native.Nat.{ℕ}
use mathlib.Core.Path.{◌≡◌, ap, ◌∙◌}
use mathlib.Core.List.{List, [], ◌∷◌}
use native.Mathlib.Omega.{arith}
use Rattle.numbers.specs.Pieces.{pack}
use Rattle.numbers.proofs.FieldLaws.{Bytes}
use Rattle.profiles.specs.Begun.{begun}
use Rattle.profiles.specs.Profiles.{bytes_for}
use Rattle.profiles.specs.Writing.{size_for}
use Rattle.turnouts.specs.Turnouts.{turnout_profile}
use Rattle.turnout_writing.proofs.WritingLaws.{header_put_lem}
use Rattle.turnout_writing.proofs.TurnoutEntryTURNOUT_BYTES.begin.Goals as goal

pub returns : goal.returns
returns c =
    let a = c.args in
    let list : List ℕ = a.list.now in
    let bits = c.bits_for in
    let sized = c.bytes_for-bytes in
    let last = c.put_byte in
    let size : sized.result ≡ size_for turnout_profile list a.n = sized.ensures ∙ ap bytes_for bits.ensures.0 in
    let known : Bytes last.new.out = λ k. omega (arith, c.slice_known-2-1.given k) in record {
      value = size;
      out_after = c.write_field.ensures
          ∙ header_put_lem last.new.out sized.result a.n known
          ∙ (λ i. pack (last.ensures i) 0 (4 ∷ 7 ∷ 2 ∷ []) (4 ∷ sized.result ∷ a.n ∷ []))
          ∙ ap (λ (b : ℕ). begun turnout_profile b a.n a.out.now) size;
    }
