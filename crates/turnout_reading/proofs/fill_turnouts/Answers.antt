-- `turnout_reading::fill_turnouts` meets its contract. The invariant: what is left to store, stored, is all the turnouts.
use Prim.Native.Nat.{ℕ, ◌+◌, ◌-◌, ◌*◌}
use mathlib.Core.Path.{◌≡◌, sym, ap, ◌∙◌}
use mathlib.Core.List.{List}
use native.Mathlib.Omega.{arith}
use lib.Seq.{sets}
use Rattle.numbers.specs.Pieces.{unpack}
use Rattle.numbers.proofs.PieceLaws.{unpack-nil}
use Rattle.profiles.proofs.ProfileLaws.{at_none}
use Rattle.turnouts.specs.Turnouts.{turnout_profile, turnout_bytes}
use Rattle.turnout_reading.proofs.ReadingLaws.{turnout-digits, fill_more}
use Rattle.turnout_reading.proofs.fill_turnouts.Invariants.{left}
use Rattle.turnout_reading.proofs.fill_turnouts.Goals as goal

pub loop-i-preserved : goal.loop-i-preserved
loop-i-preserved c = let made = c.fill_turnout in
    let l = c.loop-i in
    let a = c.args in
    let s : List ℕ = a.s.now in
    let speed = c.speed_at-speed in
    let distances = c.distances_at-distances in
    let less : a.n - (l.i + 1) ≡ a.n - l.i - 1 = omega arith in
    let place : turnout_bytes * (l.i + 1) ≡ turnout_bytes * l.i + turnout_bytes = omega arith in
    let bytes = made.ensures ∙ ap (sets l.out (turnout_bytes * l.i)) (turnout-digits s l.p speed.result distances.result speed.ensures.0 distances.ensures.0) in (
      omega arith,
      made.auto.out ∙ l.invariant.1,
      (λ j. sets (bytes j) (place j) (left s c.end_at-p.result (less j)))
          ∙ fill_more s l.p (a.n - l.i) c.end_at-p.result (omega arith) c.end_at-p.ensures.0 l.out (turnout_bytes * l.i)
          ∙ l.invariant.2,
    )

pub returns : goal.returns
returns c = let l = c.loop-i in
    let a = c.args in
    let s : List ℕ = a.s.now in
    let e : 0 ≡ a.n - l.i = omega arith in
    ap (sets l.out (turnout_bytes * l.i)) (sym (unpack-nil s l.p) ∙ ap (unpack s l.p) (sym (at_none turnout_profile s l.p)) ∙ ap (left s l.p) e) ∙ l.invariant.2
