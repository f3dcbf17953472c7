-- `turnout_reading::bits_of` meets its contract. The invariant: where the turnouts left end, all end.
use Prim.Native.Nat.{◌+◌, ◌-◌}
use mathlib.Core.Path.{◌≡◌, sym, ap, ◌∙◌}
use native.Mathlib.Omega.{arith}
use Rattle.profiles.specs.Places.{entry_at}
use Rattle.profiles.proofs.PlaceLaws.{here}
use Rattle.turnouts.specs.Turnouts.{turnout_profile}
use Rattle.turnouts.proofs.TurnoutLaws.{regular}
use Rattle.turnout_reading.proofs.ReadingLaws.{end_more}
use Rattle.turnout_reading.proofs.bits_of.Goals as goal

pub loop-i-preserved : goal.loop-i-preserved
loop-i-preserved c = let l = c.loop-i in
    let a = c.args in
    let less : a.n - (l.i + 1) ≡ a.n - l.i - 1 = omega arith in (
      omega arith,
      ap (entry_at turnout_profile a.s.now c.end_at-p.result) less
          ∙ end_more a.s.now l.p (a.n - l.i) c.end_at-p.result (omega arith) c.end_at-p.ensures.0
          ∙ l.invariant.1,
    )

pub returns : goal.returns
returns c = let l = c.loop-i in
    let a = c.args in
    let e : 0 ≡ a.n - l.i = omega arith in
    (sym (here turnout_profile regular a.s.now l.p) ∙ ap (entry_at turnout_profile a.s.now l.p) e ∙ l.invariant.1, omega arith)
