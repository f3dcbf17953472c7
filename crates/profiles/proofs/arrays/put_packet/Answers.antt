-- `profiles::arrays::put_packet` meets its contract: one write after the other makes the sub-packet.
use Rattle.std.proofs.Common.{◌≡◌, ℕ, ◌*◌, ◌/◌, length, refl, sym, ap, ◌∙◌, arith}
use Rattle.std.proofs.Math.Nat.{mul-div_cancel_left}
use Rattle.numbers.proofs.FieldLaws.{Bytes}
use Rattle.profiles.specs.Profiles.{Profile, first_at, widths_of}
use Rattle.profiles.specs.Writing.{entries_in, size_for}
use Rattle.numbers.specs.Pieces.{pack}
use Rattle.profiles.specs.Begun.{begun}
use Rattle.profiles.proofs.ProfileLaws.{some}
use Rattle.profiles.proofs.WritingLaws.{written-steps}
use Rattle.profiles.proofs.arrays.put_packet.Goals as goal

pub returns : goal.returns
returns g c =
    let f : Profile = g.E.Entry.profile in
    let regular = g.met.E.Entry.regular in
    let a = c.args in
    let list = a.list.now in
    let whole : length list ≡ f.pieces * a.n = c.requires.whole ∙ ap (λ (b : ℕ). b * a.n) g.met.E.Entry.bytes_are in
    let n : a.n ≡ entries_in f list = sym (mul-div_cancel_left a.n (some f regular)) ∙ ap (λ (k : ℕ). k / f.pieces) (sym whole) in
    let known : Bytes a.out.now = λ k. omega (arith, c.slice_known-1.given k) in record {
      value = c.begin-bytes.ensures.value;
      out_after = written-steps f regular list a.out.now _ c.begin-bytes.new.out c.put_entries.new.out known (whole ∙ ap (λ (m : ℕ). f.pieces * m) n) refl
          (c.begin-bytes.ensures.out_after ∙ (λ j. begun f (size_for f list (n j)) (n j) a.out.now))
          (c.put_entries.ensures ∙ (λ j. pack c.begin-bytes.new.out (first_at f) (widths_of f list (n j)) list));
    }
