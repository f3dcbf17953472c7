-- `turnout_reading::judge_rules` meets its contract. The invariant: the refusal of the turnouts left is that of all.
use Prim.Native.Nat.{◌+◌, ◌-◌}
use mathlib.Core.Path.{◌≡◌, refl, sym, ap, ◌∙◌}
use native.Mathlib.Omega.{arith}
use Rattle.profiles.proofs.ProfileLaws.{rules-none}
use Rattle.turnouts.specs.Turnouts.{turnout_profile, is_allowed}
use Rattle.turnout_reading.proofs.ReadingLaws.{rules-stop, rules_go}
use Rattle.turnout_reading.proofs.judge_rules.Invariants.{the_rules}
use Rattle.turnout_reading.proofs.judge_rules.Goals as goal

pub returns-then-not-is_allowed : goal.returns-then-not-is_allowed
returns-then-not-is_allowed c = let asked = c in
    let l = asked.loop-i in
    let a = asked.args in
    let wrong = ap is_allowed (sym asked.speed_at.ensures.0) ∙ sym asked.is_allowed.ensures ∙ c.if-not-is_allowed.true in
    rules-stop a.s.now l.p (a.n - l.i) _ (omega arith) refl wrong ∙ l.invariant.1

pub loop-i-preserved : goal.loop-i-preserved
loop-i-preserved c = let asked = c in
    let l = asked.loop-i in
    let a = asked.args in
    let right = ap is_allowed (sym asked.speed_at.ensures.0) ∙ sym asked.is_allowed.ensures ∙ c.if-not-is_allowed.false in
    let less : a.n - (l.i + 1) ≡ a.n - l.i - 1 = omega arith in (
      omega arith,
      ap (the_rules a.s.now c.end_at-p.result) less
          ∙ rules_go a.s.now l.p (a.n - l.i) c.end_at-p.result (omega arith) c.end_at-p.ensures.0 right
          ∙ l.invariant.1,
    )

pub returns : goal.returns
returns c = let l = c.loop-i in
    let a = c.args in
    let e : 0 ≡ a.n - l.i = omega arith in
    sym (rules-none turnout_profile l.p _) ∙ ap (the_rules a.s.now l.p) e ∙ l.invariant.1
