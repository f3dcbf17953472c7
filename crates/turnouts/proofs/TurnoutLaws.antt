-- Laws of a turnout's layout.
use mathlib.Core.Path.{◌≡◌, refl, sym, ap, ◌∙◌}
use mathlib.Core.List.{List}
use mathlib.Core.Bool.{Bool, true, false, true≢false, cond, not, ◌&&◌, ◌||◌}
use mathlib.Core.Logic.{⊎_elim, ◌⊎◌, inl, inr}
use Prim.Native.Nat.{ℕ, zero, suc, ◌+◌, ◌*◌, ◌≤◌, ◌<◌}
use native.Mathlib.Omega.{arith}
use borrow.Author.Tests.{lt-leb, ne_eqb}
use lib.Dec.{leb}
use lib.ListN.{length, get_or, drop, get_or-append}
use Rattle.numbers.specs.Pieces.{total}
use Rattle.numbers.proofs.FieldLaws.{field_lt, lt_or_le}
use Rattle.numbers.proofs.PieceLaws.{total-append}
use Rattle.framing.specs.Refusals.{none, not_allowed, refuse}
use Rattle.framing.specs.Refusals.{Refusal}
use Rattle.framing.proofs.RefusalLaws.{tested}
use Rattle.profiles.specs.Profiles.{widths_for, widths_of}
use Rattle.profiles.specs.Promised.{Promised}
use Rattle.profiles.proofs.ProfileLaws.{Regular}
use Rattle.profiles.proofs.RoundTrip.{Sayable, Full}
use Rattle.profiles.proofs.Promise.{promised as every}
use Rattle.turnouts.specs.Turnouts.{turnout_profile, turnout_bytes, most_turnouts, speed_bits, last_restricted, unrestricted, is_restricted, distances, absent, behind_speed, last_distance, last_release, is_allowed, turnout_refusal}

-- what holds of the pieces of either kind of speed, and of what they have room for, holds of those behind any
pub each_limit : (P : List ℕ → ℕ → ℕ → Type 0) → P distances 32767 4095 → P absent 0 0
    → (speed : ℕ) → P (behind_speed speed) (last_distance speed) (last_release speed)
unfolding behind_speed last_distance last_release
each_limit P with-distances without speed = of (is_restricted speed)
  where
    of : (b : Bool) → P (cond b distances absent) (cond b 32767 0) (cond b 4095 0)
    of true = with-distances
    of false = without

pub each_kind : (P : List ℕ → Type 0) → P distances → P absent → (speed : ℕ) → P (behind_speed speed)
each_kind P = each_limit (λ ws distance release. P ws)

-- the pieces of a speed that limits, and of one that does not
pub behind_restricted : (speed : ℕ) → is_restricted speed ≡ true → behind_speed speed ≡ distances
unfolding behind_speed
behind_restricted speed e = ap (λ (b : Bool). cond b distances absent) e

pub behind-other : (speed : ℕ) → is_restricted speed ≡ false → behind_speed speed ≡ absent
unfolding behind_speed
behind-other speed e = ap (λ (b : Bool). cond b distances absent) e

pub few-behind : (speed : ℕ) → total (behind_speed speed) ≤ 27
unfolding total
few-behind speed = each_kind (λ (ws : List ℕ). total ws ≤ 27) (omega arith) (omega arith) speed

-- a speed that is allowed has no more digits than its bits
neither : (b : Bool) → (b && false || false) ≡ false
neither true = refl
neither false = refl

too_large : (speed : ℕ) → 32 ≤ speed → is_allowed speed ≡ false
unfolding is_allowed is_restricted
too_large speed l =
    (λ i. leb 1 speed && lt-leb speed last_restricted (omega arith) i || ne_eqb speed unrestricted (λ e. omega arith) i) ∙ neither (leb 1 speed)

pub allowed_small : (speed : ℕ) → is_allowed speed ≡ true → speed < 32
allowed_small speed e = ⊎_elim (λ (l : speed < 32). l) (λ (l : 32 ≤ speed). absurd (true≢false (sym e ∙ too_large speed l))) (lt_or_le speed 32)

-- ---- turnouts as a profile

-- the rules refuse nothing, or the speed
only_speed : (P : Refusal → Type 0) (list : List ℕ) → P none → P (not_allowed 0) → P (turnout_refusal list)
only_speed P list nothing wrong = tested P _ _ (λ e. wrong) (λ e. nothing)

pub regular : Regular turnout_profile
unfolding total
regular = record {
  long = λ speed. each_kind (λ (ws : List ℕ). suc (length ws) ≡ turnout_bytes) refl refl speed;
  local = λ turnout more e. ap (λ (speed : ℕ). refuse (not (is_allowed speed)) (not_allowed 0)) (get_or-append turnout more 0 0 (omega arith));
  only = λ list. only_speed (λ (r : Refusal). (r ≡ none) ⊎ (r.number ≡ 4)) list (inl refl) (inr refl);
  within = λ list. only_speed (λ (r : Refusal). r.place < speed_bits + total (behind_speed (get_or list 0 0))) list (omega arith) (omega arith);
}

-- a turnout takes at most 32 bits
few-bits_of : (list : List ℕ) (n : ℕ) → total (widths_of turnout_profile list n) ≤ 32 * n
unfolding widths_of total
few-bits_of list zero = omega arith
few-bits_of list (suc n) =
    let speed : ℕ = get_or list 0 0 in
    let rest : List ℕ = drop turnout_bytes list in
    omega (arith, total-append (widths_for turnout_profile speed) (widths_of turnout_profile rest n), few-behind speed, few-bits_of rest n)

-- so the header can say what is written, and no more
sayable : Sayable turnout_profile most_turnouts
sayable = record {
  kinds = omega arith;
  counts = omega arith;
  lengths = λ list n few. omega (arith, few-bits_of list n);
}

full : Full turnout_profile most_turnouts
full s short = omega (arith, field_lt s 11 2)

-- WHAT IS PROMISED of turnouts read and written
pub promised : Promised turnout_profile most_turnouts
promised = every turnout_profile most_turnouts regular (omega arith) sayable full
