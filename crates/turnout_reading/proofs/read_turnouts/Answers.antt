-- `turnout_reading::read_turnouts` meets its contract: the law for each way out.
use Prim.Native.Nat.{ℕ}
use mathlib.Core.Path.{refl, sym, ap, ◌∙◌}
use native.Mathlib.Omega.{arith}
use lib.ListN.{length}
use lib.Seq.{sets}
use Rattle.framing.specs.Refusals.{none}
use Rattle.framing.proofs.RefusalLaws.{same_number}
use Rattle.framing.proofs.ToldLaws.{ground-some}
use Rattle.profiles.specs.Reading.{first_entries, entries_of}
use Rattle.profiles.proofs.ReadingLaws.{accepted, read-refused, read_stored}
use Rattle.turnouts.specs.Turnouts.{turnout_profile}
use Rattle.turnouts.proofs.TurnoutLaws.{regular}
use Rattle.turnout_reading.proofs.read_turnouts.Goals as goal

-- where nothing refuses, there is room
pub fill_turnouts-requires : goal.fill_turnouts-requires
fill_turnouts-requires c =
    let a = c.args in
    let taken = accepted turnout_profile a.s.now (length a.out.now) (sym (same_number c.in-Ok.ensures)) in
    omega (arith, taken.fits, c.count_of-entries.ensures)

pub returns-in-Ok : goal.returns-in-Ok
unfolding entries_of
returns-in-Ok c =
    let a = c.args in
    let n = c.count_of-entries.ensures.0 in
    let both = read_stored turnout_profile a.s.now a.out.now none c.in-Ok.ensures regular refl
    c.count_of-entries.result c.length_of.result c.fill_turnouts.new.out n c.length_of.ensures.0
    (c.fill_turnouts.ensures ∙ ap (λ (k : ℕ). sets a.out.now 0 (first_entries turnout_profile a.s.now k)) n) in
    record {
      value = both.0;
      out_after = both.1;
    }

pub returns-in-Err : goal.returns-in-Err
returns-in-Err c =
    let a = c.args in
    let both = read-refused turnout_profile a.s.now a.out.now _ c.in-Err.ensures (ground-some _) in
    record {
      value = c.from.ensures ∙ both.0;
      out_after = both.1;
    }
