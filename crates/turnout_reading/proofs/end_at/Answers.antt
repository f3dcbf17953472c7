-- `turnout_reading::end_at` meets its contract.
use Prim.Native.Nat.{ℕ}
use mathlib.Core.Path.{ap, ◌∙◌}
use native.Mathlib.Omega.{arith}
use Rattle.numbers.specs.Pieces.{total}
use Rattle.turnouts.specs.Turnouts.{behind_speed}
use Rattle.turnout_reading.proofs.end_at.Goals as goal

pub returns : goal.returns
unfolding total
returns c = let a = c.args in
    let e = c.bits_behind.ensures.0 ∙ ap (λ (speed : ℕ). total (behind_speed speed)) c.speed_at.ensures.0 in
    (omega (arith, e), omega (arith, c.bits_behind.ensures.1))
