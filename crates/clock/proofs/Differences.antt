-- The difference round the day: plain where the station's number is not the lower one, a whole day more where it is; below a day; and the
-- same when both numbers are turned round the day.
use mathlib.Core.Path.{◌≡◌, sym, ap, ◌∙◌}
use Prim.Native.Nat.{ℕ, ◌+◌, ◌-◌, ◌*◌, ◌/◌, ◌%◌, ◌≤◌, ◌<◌}
use native.Mathlib.Nat.{mul-add-mod_self_right, div-add-mod', mod-lt}
use native.Mathlib.Omega.{arith}
use mathlib.Core.Bool.{false}
use Rattle.clock.specs.Age.{last_frame, refuses, difference, age_of, later}
use Rattle.clock.proofs.Grounds.{both_frames}

-- two sums that differ by whole days
days : (q p r t station onboard k : ℕ) → q * last_frame + r ≡ station - 1 + k → p * last_frame + t ≡ onboard - 1 + k → t < last_frame → 1 ≤ station → 1 ≤ onboard → onboard ≤ last_frame → q * last_frame + (r + 1 + last_frame - (t + 1)) ≡ p * last_frame + (station + last_frame - onboard)
days q p r t station onboard k e f h hs ho hl = omega (arith, e, f, h, hs, ho, hl)

module _ (station onboard : ℕ) where
  pub plain : refuses station onboard ≡ false → onboard ≤ station → station - onboard ≡ difference station onboard
  unfolding difference
  plain e h = let f = both_frames station onboard e in omega (arith, f.0.0, f.0.1, f.1.0, f.1.1, h)

  pub over_midnight : refuses station onboard ≡ false → station < onboard → station + last_frame - onboard ≡ difference station onboard
  unfolding difference
  over_midnight e h = let f = both_frames station onboard e in omega (arith, f.0.0, f.0.1, f.1.0, f.1.1, h)

  pub below_a_day : difference station onboard < last_frame
  unfolding difference
  below_a_day = omega arith

  pub age_below_half_a_day : age_of station onboard < 43_200
  unfolding age_of difference
  age_below_half_a_day = omega arith

  pub turned : (k : ℕ) → refuses station onboard ≡ false → difference (later k station) (later k onboard) ≡ difference station onboard
  unfolding difference later
  turned k e =
      let f = both_frames station onboard e in
      let a = station - 1 + k in
      let b = onboard - 1 + k in
      sym (mul-add-mod_self_right (a / last_frame) last_frame (a % last_frame + 1 + last_frame - (b % last_frame + 1)))
      ∙ ap (λ (n : ℕ). n % last_frame) (days (a / last_frame) (b / last_frame) (a % last_frame) (b % last_frame) station onboard k (div-add-mod' a last_frame) (div-add-mod' b last_frame) (mod-lt b (omega arith)) f.0.0 f.1.0 f.1.1)
      ∙ mul-add-mod_self_right (b / last_frame) last_frame (station + last_frame - onboard)
