-- Laws of turnout writing.
use mathlib.Core.Path.{◌≡◌, refl, sym, ap, ap₂, ◌∙◌}
use mathlib.Core.List.{List, [], ◌∷◌}
use mathlib.Core.Bool.{Bool, true, false, not}
use mathlib.Core.Logic.{⊎_elim}
use Prim.Native.Nat.{ℕ, suc, ◌+◌, ◌-◌, ◌*◌, ◌%◌, ◌≤◌, ◌<◌}
use native.Mathlib.Nat.{add_assoc}
use native.Mathlib.Omega.{arith}
use lib.ListN.{length, get_or, drop, length-drop}
use lib.Seq.{get_or-drop, drop-cons, drop-drop}
use Rattle.numbers.specs.Fields.{put}
use Rattle.numbers.specs.Pieces.{total, pack}
use Rattle.numbers.specs.Numbers.{number_at}
use Rattle.numbers.proofs.FieldLaws.{Bytes, bytes-put, put-zero, lt_or_le}
use Rattle.numbers.proofs.PieceLaws.{total-append}
use Rattle.numbers.proofs.NumberLaws.{number-byte, number_pair}
use Rattle.numbers.proofs.JoinedLaws.{joined, pack_joined}
use Rattle.framing.specs.Refusals.{none, too_wide, not_allowed, refuse, or_else, unless_refused, untold}
use Rattle.framing.proofs.RefusalLaws.{next}
use Rattle.profiles.specs.Profiles.{widths_for, widths_of}
use Rattle.profiles.specs.Writing.{widths_refusal, entry_refusal}
use Rattle.profiles.proofs.WritingLaws.{only_last, only_widths, widths_none, widths_wide, widths_fit, first_byte}
use Rattle.turnouts.specs.Turnouts.{turnout_profile, turnout_bytes, distances, absent, behind_speed, last_distance, last_release, is_allowed}
use Rattle.turnouts.proofs.TurnoutLaws.{each_limit, each_kind, allowed_small}
use Rattle.turnouts.proofs.PutLaws.{both}
pub use Rattle.turnouts.proofs.PutLaws.{distances_of}

-- ---- the bytes of a turnout in a list

-- its speed
pub speed_eq : (list : List ℕ) (at : ℕ) → Bytes list → number_at 1 list at ≡ get_or (drop at list) 0 0
speed_eq list at hs = number-byte list at (hs at) ∙ sym (first_byte list at)

module _ (list : List ℕ) (hs : Bytes list) (at : ℕ) where
  abbrev pub turnout : List ℕ
  turnout = drop at list

  abbrev pub speed : ℕ
  speed = get_or turnout 0 0

  -- the number that two bytes of it are
  abbrev pub pair : ℕ → ℕ
  pair k = get_or turnout k 0 * 256 + get_or turnout (k + 1) 0

  pub bytes : Bytes turnout
  bytes k = omega (arith, get_or-drop at list k 0, hs (at + k))

  pub pair_eq : (k : ℕ) → number_at 2 list (at + k) ≡ pair k
  pair_eq k =
      number_pair list (at + k) hs
      ∙ ap₂ (λ (a b : ℕ). a * 256 + b) (sym (get_or-drop at list k 0)) (ap (λ (n : ℕ). get_or list n 0) (add_assoc at k 1) ∙ sym (get_or-drop at list (k + 1) 0))

-- ---- what is refused

module _ (l : List ℕ) (hs : Bytes l) where
  abbrev two : ℕ → ℕ
  two k = get_or l k 0 * 256 + get_or l (suc k) 0

  -- of the two pieces from piece k on, which have 8 bits more than 7 or 4, or none, one byte is too wide where the number of both is
  either : (ws : List ℕ) (k : ℕ) → suc k < length ws → get_or ws k 0 ≡ 0 → get_or ws (suc k) 0 ≡ 0 → 0 < two k → widths_refusal ws l ≡ too_wide
  either ws k long z₁ z₂ h =
      ⊎_elim
      (λ (None-first : get_or l k 0 < 1). widths_wide ws l (suc k) long (rw z₂ (omega (arith, None-first))))
      (λ (one-first : 1 ≤ get_or l k 0). widths_wide ws l k (omega arith) (rw z₁ one-first))
      (lt_or_le (get_or l k 0) 1)

  far_wide : (v : ℕ) → last_distance v < two 1 → widths_refusal (5 ∷ behind_speed v) l ≡ too_wide
  far_wide =
      each_limit (λ ws distance release. distance < two 1 → widths_refusal (5 ∷ ws) l ≡ too_wide)
      (λ h. widths_wide _ l 1 (omega arith) (omega (arith, hs 2)))
      (λ h. either _ 1 (omega arith) refl refl h)

  release-wide : (v : ℕ) → last_release v < two 3 → widths_refusal (5 ∷ behind_speed v) l ≡ too_wide
  release-wide =
      each_limit (λ ws distance release. release < two 3 → widths_refusal (5 ∷ ws) l ≡ too_wide)
      (λ h. widths_wide _ l 3 (omega arith) (omega (arith, hs 4)))
      (λ h. either _ 3 (omega arith) refl refl h)

  -- where neither is, all fit
  all_fit : (v : ℕ) → get_or l 0 0 < 32 → two 1 ≤ last_distance v → two 3 ≤ last_release v → (widths_refusal (5 ∷ behind_speed v) l).number ≡ 0
  all_fit v h₀ =
      each_limit (λ ws distance release. two 1 ≤ distance → two 3 ≤ release → (widths_refusal (5 ∷ ws) l).number ≡ 0)
      (λ h₁ h₃. widths_fit _ _ l 0 h₀ (widths_fit _ _ l 1 (omega arith) (widths_fit _ _ l 2 (hs 2) (widths_fit _ _ l 3 (omega arith) (widths_fit _ _ l 4 (hs 4) (widths_none (drop 5 l)))))))
      (λ h₁ h₃. widths_fit _ _ l 0 h₀ (widths_fit _ _ l 1 (omega arith) (widths_fit _ _ l 2 (omega arith) (widths_fit _ _ l 3 (omega arith) (widths_fit _ _ l 4 (omega arith) (widths_none (drop 5 l)))))))
      v

  -- the ways out
  pub speed_refused : is_allowed (get_or l 0 0) ≡ false → not_allowed 0 ≡ entry_refusal turnout_profile l
  unfolding entry_refusal refuse
  speed_refused wrong =
      sym (only_last _ _ (only_widths (5 ∷ behind_speed (get_or l 0 0)) l) (ap (λ (b : Bool). untold (refuse (not b) (not_allowed 0))) wrong))

  wide-refused : widths_refusal (5 ∷ behind_speed (get_or l 0 0)) l ≡ too_wide → too_wide ≡ entry_refusal turnout_profile l
  unfolding entry_refusal or_else unless_refused
  wide-refused e = rw e

  pub far_refused : last_distance (get_or l 0 0) < two 1 → too_wide ≡ entry_refusal turnout_profile l
  far_refused h = wide-refused (far_wide (get_or l 0 0) h)

  pub release-refused : last_release (get_or l 0 0) < two 3 → too_wide ≡ entry_refusal turnout_profile l
  release-refused h = wide-refused (release-wide (get_or l 0 0) h)

  pub none-refused : is_allowed (get_or l 0 0) ≡ true → two 1 ≤ last_distance (get_or l 0 0) → two 3 ≤ last_release (get_or l 0 0) → none ≡ entry_refusal turnout_profile l
  unfolding entry_refusal refuse
  none-refused right h₁ h₃ =
      next _ _ (all_fit (get_or l 0 0) (allowed_small (get_or l 0 0) right) h₁ h₃) (sym (ap (λ (b : Bool). untold (refuse (not b) (not_allowed 0))) right))

-- ---- a turnout put in two fields, its speed and behind it the distances: the same as its one number

-- pieces without bits change nothing
no_bits : (o : List ℕ) (p : ℕ) (vs : List ℕ) → pack o p absent vs ≡ o
unfolding pack put
no_bits o p [] = refl
no_bits o p (a ∷ []) = refl
no_bits o p (a ∷ b ∷ []) = refl
no_bits o p (a ∷ b ∷ c ∷ []) = refl
no_bits o p (a ∷ b ∷ c ∷ d ∷ vs) = refl

neither : (o : List ℕ) (p : ℕ) (l : List ℕ) → put o p (total absent) (distances_of l) ≡ pack o p absent (drop 1 l)
unfolding total
neither o p l = put-zero o p _ ∙ sym (no_bits o p (drop 1 l))

-- what stands behind the speed, put as one number of which no bit is put where the speed has none
pub behind-put : (o : List ℕ) (p v : ℕ) (l : List ℕ) → Bytes o → Bytes l → turnout_bytes ≤ length l
    → put o p (total (behind_speed v)) (distances_of l) ≡ pack o p (behind_speed v) (drop 1 l)
behind-put o p v l ho hs long =
    each_kind (λ (ws : List ℕ). put o p (total ws) (distances_of l) ≡ pack o p ws (drop 1 l))
    (ap (put o p (total distances)) (sym (both l hs long)) ∙ sym (pack_joined o p distances (drop 1 l) ho (rw length-drop (omega arith))))
    (neither o p l) v

-- so a turnout's pieces are put
pub turnout-put : (o : List ℕ) (p v : ℕ) (l : List ℕ) → v ≡ get_or l 0 0 → Bytes o → Bytes l → turnout_bytes ≤ length l
    → put (put o p 5 v) (p + 5) (total (behind_speed v)) (distances_of l)
    ≡ pack o p (widths_for turnout_profile (get_or l 0 0)) l
unfolding pack
turnout-put o p v l ev ho hs long =
    behind-put (put o p 5 v) (p + 5) v l (bytes-put o p 5 v ho) hs long
    ∙ ap (λ (x : ℕ). pack (put o p 5 x) (p + 5) (behind_speed x) (drop 1 l)) ev
    ∙ ap (λ (m : List ℕ). pack o p (5 ∷ behind_speed (get_or l 0 0)) m) (sym (drop-cons l 0 0 (omega arith)))

-- ---- the bits of a list, a turn at a time

pub bits_none : (list : List ℕ) → total (widths_of turnout_profile list 0) ≡ 0
unfolding widths_of total
bits_none list = refl

-- m turnouts are left, and the first of them is at byte `at`
pub bits-more : (list : List ℕ) (at m : ℕ) → 0 < m
    → 5 + total (behind_speed (get_or (drop at list) 0 0)) + total (widths_of turnout_profile (drop (at + turnout_bytes) list) (m - 1)) ≡ total (widths_of turnout_profile (drop at list) m)
unfolding widths_of total
bits-more list at m h =
    let n : suc (m - 1) ≡ m = omega arith in
    let l : List ℕ = drop at list in
    ap (λ (rest : List ℕ). 5 + total (behind_speed (get_or l 0 0)) + total (widths_of turnout_profile rest (m - 1))) (sym (drop-drop turnout_bytes at list))
    ∙ sym (total-append (widths_for turnout_profile (get_or l 0 0)) (widths_of turnout_profile (drop turnout_bytes l) (m - 1)))
    ∙ ap (λ (k : ℕ). total (widths_of turnout_profile l k)) n

-- ---- type, length and count

pub header_put_lem : (o : List ℕ) (size n : ℕ) → Bytes o → put o 0 13 (2048 + size % 128 * 4 + n % 4) ≡ pack o 0 (4 ∷ 7 ∷ 2 ∷ []) (4 ∷ size ∷ n ∷ [])
unfolding joined total
header_put_lem o size n ho =
    let e : 2048 + size % 128 * 4 + n % 4 ≡ joined (4 ∷ 7 ∷ 2 ∷ []) (4 ∷ size ∷ n ∷ []) = omega arith in
    ap (put o 0 13) e ∙ sym (pack_joined o 0 (4 ∷ 7 ∷ 2 ∷ []) (4 ∷ size ∷ n ∷ []) ho (omega arith))
