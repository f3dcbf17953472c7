-- The ground of refusal: what numbers that are not refused have, and the frame age on either side of it.
use mathlib.Core.Path.{◌≡◌}
use mathlib.Core.Bool.{true, false}
use Prim.Native.Nat.{ℕ, ◌≤◌}
use borrow.Author.Tests.{ltb-false}
use Rattle.numbers.proofs.Logic.{neither}
use Rattle.clock.specs.Age.{last_frame, not_a_frame, age_of, aged, refused, refuses, frame_age}

-- the bounds of a frame's number
abbrev pub Frame : ℕ → Type 0
Frame n = (1 ≤ n) × (n ≤ last_frame)

frame : (n : ℕ) → not_a_frame n ≡ false → Frame n
unfolding not_a_frame
frame n e = let h = neither _ _ e in (ltb-false n 1 h.0, ltb-false last_frame n h.1)

module _ (station onboard : ℕ) where
  pub both_frames : refuses station onboard ≡ false → Frame station × Frame onboard
  unfolding refuses
  both_frames e = let h = neither _ _ e in (frame station h.0, frame onboard h.1)

  pub age-refused : refuses station onboard ≡ true → refused ≡ frame_age station onboard
  unfolding frame_age
  age-refused e = rw e

  pub age-given : refuses station onboard ≡ false → aged (age_of station onboard) ≡ frame_age station onboard
  unfolding frame_age
  age-given e = rw e
