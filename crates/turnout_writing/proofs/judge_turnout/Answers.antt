-- `turnout_writing::judge_turnout` meets its contract: the law for each way out.
use Prim.Native.Nat.{ℕ, ◌<◌}
use mathlib.Core.Path.{◌≡◌, sym, ap, ◌∙◌}
use mathlib.Core.List.{List}
use native.Mathlib.Omega.{arith}
use lib.ListN.{get_or}
use Rattle.numbers.proofs.NumberLaws.{number-byte, number_pair}
use Rattle.turnouts.specs.Turnouts.{last_distance, last_release, is_allowed}
use Rattle.turnout_writing.proofs.WritingLaws.{speed_refused, far_refused, release-refused, none-refused}
use Rattle.turnout_writing.proofs.judge_turnout.Goals.{After-byte_at-speed, Start}
use Rattle.turnout_writing.proofs.judge_turnout.Goals as goal

-- the bytes, and the speed that was read
module _ (c : After-byte_at-speed) where
  abbrev turnout : List ℕ
  turnout = (goal.at.After-byte_at-speed c).Start.args.turnout.now

  abbrev known : (k : ℕ) → get_or turnout k 0 < 256
  known k = omega (arith, c.type_inv.turnout k)

  read : c.byte_at-speed.result ≡ get_or turnout 0 0
  read = c.byte_at-speed.ensures ∙ number-byte turnout 0 (known 0)

pub returns-then-not-is_allowed : goal.returns-then-not-is_allowed
returns-then-not-is_allowed c =
    let b = (goal.at.returns-then-not-is_allowed c).After-byte_at-speed in
    speed_refused (turnout b) (known b) (ap is_allowed (sym (read b)) ∙ sym c.is_allowed.ensures ∙ c.if-not-is_allowed.true)

pub returns-then-last_distance-half_at : goal.returns-then-last_distance-half_at
returns-then-last_distance-half_at c =
    let b = (goal.at.returns-then-last_distance-half_at c).After-byte_at-speed in
    far_refused (turnout b) (known b)
    (omega (arith, c.if-last_distance-half_at.true, c.half_at.ensures, number_pair (turnout b) 1 (known b), c.last_distance.ensures, ap last_distance (read b)))

pub returns-then-last_release-half_at : goal.returns-then-last_release-half_at
returns-then-last_release-half_at c =
    let b = (goal.at.returns-then-last_release-half_at c).After-byte_at-speed in
    release-refused (turnout b) (known b)
    (omega (arith, c.if-last_release-half_at.true, c.half_at-2.ensures, number_pair (turnout b) 3 (known b), c.last_release.ensures, ap last_release (read b)))

pub returns : goal.returns
returns c =
    let b = (goal.at.returns c).After-byte_at-speed in
    none-refused (turnout b) (known b) (ap is_allowed (sym (read b)) ∙ sym c.is_allowed.ensures ∙ c.if-not-is_allowed.false)
    (omega (arith, c.if-last_distance-half_at.false, c.half_at.ensures, number_pair (turnout b) 1 (known b), c.last_distance.ensures, ap last_distance (read b)))
    (omega (arith, c.if-last_release-half_at.false, c.half_at-2.ensures, number_pair (turnout b) 3 (known b), c.last_release.ensures, ap last_release (read b)))
