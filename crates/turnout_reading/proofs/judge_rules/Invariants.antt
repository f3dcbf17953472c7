-- `turnout_reading::judge_rules` meets its contract. The invariant: the refusal of the turnouts left is that of all.
use Prim.Native.Nat.{ℕ, ◌+◌, ◌-◌, ◌*◌, ◌≤◌}
use mathlib.Core.Path.{◌≡◌}
use mathlib.Core.List.{List}
use Rattle.numbers.specs.Pieces.{unpack}
use Rattle.framing.specs.Refusals.{Refusal}
use Rattle.profiles.specs.Profiles.{widths_at, rules_refusal}
use Rattle.turnouts.specs.Turnouts.{turnout_profile}
use Rattle.turnout_reading.proofs.judge_rules.Given as goal

-- the rules on m turnouts from bit p on
abbrev pub the_rules : List ℕ → ℕ → ℕ → Refusal
the_rules s p m = rules_refusal turnout_profile p (unpack s p (widths_at turnout_profile s p m)) m

abbrev pub invariant-loop-i : goal.invariant-loop-i
invariant-loop-i l = (l.p ≤ 13 + 32 * l.i) × (the_rules l.s l.p (l.n - l.i) ≡ the_rules l.s 13 l.n)
