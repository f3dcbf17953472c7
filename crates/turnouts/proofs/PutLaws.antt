-- Laws of a turnout as one number.
use mathlib.Core.Path.{◌≡◌, ap, ap₂, ◌∙◌}
use mathlib.Core.List.{List, [], ◌∷◌}
use mathlib.Core.Bool.{Bool, true, false, cond}
use Prim.Native.Nat.{ℕ, ◌+◌, ◌*◌, ◌%◌, ◌^◌, ◌≤◌, ◌<◌}
use native.Mathlib.Nat.{mod-eq_of_lt}
use native.Mathlib.Omega.{arith}
use lib.ListN.{length, get_or, drop}
use lib.Pow.{mod-pow-add, high, low}
use Rattle.numbers.specs.Pieces.{total}
use Rattle.numbers.proofs.FieldLaws.{Bytes}
use Rattle.numbers.proofs.JoinedLaws.{joined, joined_step}
use Rattle.turnouts.specs.Turnouts.{turnout_bytes, is_restricted, distances, absent, behind_speed}

-- distance and release distance of a turnout's bytes as one number, each cut to its width
abbrev pub distances_of : List ℕ → ℕ
distances_of l = (get_or l 1 0 * 256 + get_or l 2 0) % 32768 * 4096 + (get_or l 3 0 * 256 + get_or l 4 0) % 4096

-- the number of a turnout's bytes: its speed, and behind it the distances where the speed has them
abbrev pub turnout_number : List ℕ → ℕ
turnout_number l = cond (is_restricted (get_or l 0 0)) (get_or l 0 0 * 134217728 + distances_of l) (get_or l 0 0)

-- the low digits of a number of two bytes
low-digits : (a b k : ℕ) → b < 256 → (a * 256 + b) % 2 ^ (k + 8) ≡ a % 2 ^ k * 256 + b
low-digits a b k h = mod-pow-add (a * 256 + b) k 8 ∙ ap₂ (λ (x y : ℕ). x % 2 ^ k * 256 + y) (high a 8 h) (low a 8 h)

module _ (l : List ℕ) (hs : Bytes l) (long : turnout_bytes ≤ length l) where
  abbrev pub speed : ℕ
  speed = get_or l 0 0

  pub both : joined distances (drop 1 l) ≡ distances_of l
  unfolding joined total
  both =
      let far : (get_or l 1 0 * 256 + get_or l 2 0) % 32768 ≡ get_or l 1 0 % 128 * 256 + get_or l 2 0 = low-digits (get_or l 1 0) (get_or l 2 0) 7 (hs 2) in
      let near : (get_or l 3 0 * 256 + get_or l 4 0) % 4096 ≡ get_or l 3 0 % 16 * 256 + get_or l 4 0 = low-digits (get_or l 3 0) (get_or l 4 0) 4 (hs 4) in
      omega (arith, far, near, mod-eq_of_lt (hs 2), mod-eq_of_lt (hs 4), joined_step 7 (8 ∷ 4 ∷ 8 ∷ []) l 1 (omega arith), joined_step 8 (4 ∷ 8 ∷ []) l 2 (omega arith), joined_step 4 (8 ∷ []) l 3 (omega arith), joined_step 8 [] l 4 (omega arith))

  neither : joined absent (drop 1 l) ≡ 0
  unfolding joined total
  neither =
      omega (arith, joined_step 0 (0 ∷ 0 ∷ 0 ∷ []) l 1 (omega arith), joined_step 0 (0 ∷ 0 ∷ []) l 2 (omega arith), joined_step 0 (0 ∷ []) l 3 (omega arith), joined_step 0 [] l 4 (omega arith))

  of_kind : (b : Bool) → speed * 2 ^ total (cond b distances absent) + joined (cond b distances absent) (drop 1 l) ≡ cond b (speed * 134217728 + distances_of l) speed
  unfolding total
  of_kind true = ap (λ (n : ℕ). speed * 134217728 + n) both
  of_kind false = omega (arith, neither)

  -- its pieces are this number, one behind the other
  pub joined_turnout : speed * 2 ^ total (behind_speed speed) + joined (behind_speed speed) (drop 1 l) ≡ turnout_number l
  unfolding behind_speed
  joined_turnout = of_kind (is_restricted speed)
