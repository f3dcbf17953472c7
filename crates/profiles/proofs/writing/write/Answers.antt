-- `profiles::writing::write` meets its contract: everything is judged first, and written afterwards.
use Rattle.std.proofs.Common.{◌≡◌, ℕ, ◌*◌, ◌/◌, length, refl, sym, ap, ◌∙◌, arith}
use Rattle.framing.proofs.RefusalLaws.{same_number}
use Rattle.framing.proofs.ToldLaws.{ground-some}
use Rattle.framing.specs.Refusals.{none}
use Rattle.profiles.specs.Writing.{entries_in, size_for, written_with}
use Rattle.profiles.proofs.WritingLaws.{listed, write_refused, write_accepted}
use Rattle.profiles.proofs.writing.write.Goals as goal

-- where nothing refuses, the list is whole entries, and no more than the most
pub put_packet-bytes-requires : goal.put_packet-bytes-requires
put_packet-bytes-requires g c =
    let e = g.E.Entry in
    let list = c.args.list.now in
    let taken = listed e.profile e.MOST list (length c.args.out.now) (sym (same_number c.in-Ok.ensures)) in
    let bytes = c.BYTES.ensures ∙ g.met.E.Entry.bytes_are in
    let n : length list / c.BYTES.result ≡ entries_in e.profile list = ap (λ (b : ℕ). length list / b) bytes in
    record {
      few = omega (arith, n, taken.few);
      whole = taken.whole ∙ (λ j. sym g.met.E.Entry.bytes_are j * (length list / sym bytes j));
    }

pub returns-in-Ok : goal.returns-in-Ok
returns-in-Ok g c =
    let e = g.E.Entry in
    let a = c.args in
    let list = a.list.now in
    let made = c.put_packet-bytes in
    let n : length list / c.BYTES.result ≡ entries_in e.profile list = ap (λ (b : ℕ). length list / b) (c.BYTES.ensures ∙ g.met.E.Entry.bytes_are) in
    let both = write_accepted e.profile e.MOST list a.out.now none c.in-Ok.ensures refl made.result made.new.out (made.ensures.value ∙ ap (size_for e.profile list) n) made.ensures.out_after in
    record {
      value = (λ j. written_with (n j) made.result) ∙ both.0;
      out_after = both.1;
    }

pub returns-in-Err : goal.returns-in-Err
returns-in-Err g c =
    let e = g.E.Entry in
    let a = c.args in
    let both = write_refused e.profile e.MOST a.list.now a.out.now _ c.in-Err.ensures (ground-some _) in
    record {
      value = c.from.ensures ∙ both.0;
      out_after = both.1;
    }
