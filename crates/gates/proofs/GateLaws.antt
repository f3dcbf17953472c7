-- Laws of a gate's layout.
use mathlib.Core.Path.{◌≡◌, refl, ap, ◌∙◌}
use mathlib.Core.List.{List, ◌∷◌, ◌++◌}
use mathlib.Core.Bool.{Bool, true, false}
use mathlib.Core.Logic.{◌⊎◌, inl, inr}
use Prim.Native.Nat.{ℕ, ◌+◌, ◌-◌, ◌*◌, ◌≤◌, ◌<◌}
use native.Mathlib.Nat.{mul-suc}
use native.Mathlib.Numerals.{add-one}
use native.Mathlib.Omega.{arith}
use lib.Dec.{ltb}
use lib.ListN.{length, get_or, get_or-append}
use Rattle.numbers.specs.Pieces.{total, times}
use Rattle.framing.specs.Refusals.{none, not_allowed, refuse, or_else, unless_refused}
use Rattle.framing.specs.Refusals.{Refusal}
use Rattle.framing.proofs.RefusalLaws.{tested, tried}
use Rattle.profiles.specs.Profiles.{count_of, bytes_for, widths_at, widths_of}
use Rattle.profiles.specs.Reading.{bits_of}
use Rattle.profiles.specs.Writing.{bits_for}
use Rattle.profiles.specs.Promised.{Promised}
use Rattle.profiles.proofs.ProfileLaws.{Regular, steady_at, steady_of}
use Rattle.profiles.proofs.RoundTrip.{Sayable, Full}
use Rattle.profiles.proofs.Promise.{promised as every}
use Rattle.gates.specs.Gates.{gate_bytes, gate_widths, gate_bits, bits_with, gate_rules, gate_refusal, behind_first, gate_profile_with, gate_profile, distance_width, most_gates, last_whistle}
use Rattle.gates.specs.Forms.{layout_of, other_form, profile_in}
use Rattle.gates.specs.{declared.forms.Form.Form, declared.forms.Form.TheVariants.Old, declared.forms.Form.TheVariants.New}
use Rattle.numbers.proofs.FieldLaws.{field_lt}
use Rattle.numbers.proofs.PieceLaws.{total-times}

pub total-gate : (distance : ℕ) → 8 ≤ distance → total (gate_widths distance) ≡ gate_bits distance
unfolding total gate_widths
total-gate distance h = omega arith

-- the header and n gates take the bits before the padding
pub bits_gates : (distance n : ℕ) → 8 ≤ distance → 16 + total (times n (gate_widths distance)) ≡ bits_with distance n
bits_gates distance n h = ap (λ (t : ℕ). 16 + t) (total-times n (gate_widths distance) (gate_bits distance) (total-gate distance h))

-- a further gate starts behind those before it
pub bits-suc : (distance n : ℕ) → bits_with distance (n + 1) ≡ bits_with distance n + gate_bits distance
bits-suc distance n =
    let e : gate_bits distance * (n + 1) ≡ gate_bits distance * n + gate_bits distance = ap (λ (m : ℕ). gate_bits distance * m) (add-one n) ∙ mul-suc (gate_bits distance) n in
    omega (arith, e)

-- a gate's rules refuse nothing, or a field within the gate: what holds of both holds of their refusal
pub rules_hold : (P : Refusal → Type 0) (distance number suffix class whistle : ℕ) → P none → ((p : ℕ) → p < gate_bits distance → P (not_allowed p))
    → P (gate_rules distance number suffix class whistle)
unfolding gate_rules
rules_hold P distance number suffix class whistle nothing field =
    at _ _ _ (omega arith) (at _ _ _ (omega arith) (at _ _ _ (omega arith) (at _ _ _ (omega arith) (tested P _ _ (λ e. field _ (omega arith)) (λ e. nothing)))))
  where
    at : (t : Bool) (p : ℕ) (rest : Refusal) → p < gate_bits distance → P rest → P (or_else (refuse t (not_allowed p)) rest)
    at t p rest h more = tried P t 3 p rest (λ e. field p h) (λ e. more)

-- so the place lies within the gate
pub place_in_gate : (distance number suffix class whistle : ℕ) → (gate_rules distance number suffix class whistle).place < gate_bits distance
place_in_gate distance number suffix class whistle =
    rules_hold (λ (r : Refusal). r.place < gate_bits distance) distance number suffix class whistle (omega arith) (λ p h. h)

-- and whether they refuse does not hang on the width of the distance, which moves the places alone
same_test : (t : Bool) (p q : ℕ) → (refuse t (not_allowed p)).number ≡ (refuse t (not_allowed q)).number
unfolding refuse
same_test true p q = refl
same_test false p q = refl

same_chain : (t : Bool) (p q : ℕ) (r u : Refusal) → r.number ≡ u.number → (or_else (refuse t (not_allowed p)) r).number ≡ (or_else (refuse t (not_allowed q)) u).number
unfolding or_else refuse unless_refused
same_chain true p q r u e = refl
same_chain false p q r u e = e

pub rules-number : (distance other number suffix class whistle : ℕ) → (gate_rules distance number suffix class whistle).number ≡ (gate_rules other number suffix class whistle).number
unfolding gate_rules
rules-number distance other number suffix class whistle =
    same_chain _ _ _ _ _ (same_chain _ _ _ _ _ (same_chain _ _ _ _ _ (same_chain _ _ _ _ _ (same_test (ltb last_whistle whistle) _ _))))

-- ---- gates as a profile

-- the rules look at the gate's own bytes
own_bytes : (distance : ℕ) (gate more : List ℕ) → length gate ≡ gate_bytes → gate_refusal distance (gate ++ more) ≡ gate_refusal distance gate
unfolding gate_refusal
own_bytes distance gate more e =
    let at : (k : ℕ) → k < gate_bytes → get_or (gate ++ more) k 0 ≡ get_or gate k 0 = λ k h. get_or-append gate more 0 k (omega arith) in
    λ i. gate_rules distance (at 2 (omega arith) i * 256 + at 3 (omega arith) i) (at 4 (omega arith) i) (at 6 (omega arith) i) (at 8 (omega arith) i)

only_four : (distance : ℕ) (list : List ℕ) → (gate_refusal distance list ≡ none) ⊎ ((gate_refusal distance list).number ≡ 4)
unfolding gate_refusal
only_four distance list = rules_hold (λ (r : Refusal). (r ≡ none) ⊎ (r.number ≡ 4)) distance _ _ _ _ (inl refl) (λ p h. inr refl)

pub within_gate : (distance : ℕ) (list : List ℕ) → (gate_refusal distance list).place < gate_bits distance
unfolding gate_refusal
within_gate distance list = place_in_gate distance _ _ _ _

pub regular : (distance : ℕ) → 8 ≤ distance → Regular (gate_profile_with distance)
unfolding gate_widths
regular distance wide = record {
  long = λ v. refl;
  local = own_bytes distance;
  only = only_four distance;
  within = λ list. omega (arith, within_gate distance list, total-gate distance wide);
}

module _ (distance : ℕ) where
  -- gates are the case in which all entries have the same widths
  same_widths : (distance - 8) ∷ behind_first ≡ gate_widths distance
  unfolding gate_widths
  same_widths = refl

  pub widths_at_lem : (s : List ℕ) (p n : ℕ) → widths_at (gate_profile_with distance) s p n ≡ times n (gate_widths distance)
  widths_at_lem = steady_at (gate_profile_with distance) (gate_widths distance) (λ v. same_widths)

  pub widths_of_lem : (list : List ℕ) (n : ℕ) → widths_of (gate_profile_with distance) list n ≡ times n (gate_widths distance)
  widths_of_lem = steady_of (gate_profile_with distance) (gate_widths distance) (λ v. same_widths)

  -- so the count alone tells the bits
  module _ (wide : 8 ≤ distance) where
    pub bits-read : (s : List ℕ) → bits_of (gate_profile_with distance) s ≡ bits_with distance (count_of (gate_profile_with distance) s)
    unfolding bits_of
    bits-read s =
        let n : ℕ = count_of (gate_profile_with distance) s in
        ap (λ (ws : List ℕ). 16 + total ws) (widths_at_lem s 16 n) ∙ bits_gates distance n wide

    pub bits_for_lem : (list : List ℕ) (n : ℕ) → bits_for (gate_profile_with distance) list n ≡ bits_with distance n
    bits_for_lem list n = ap (λ (ws : List ℕ). 16 + total ws) (widths_of_lem list n) ∙ bits_gates distance n wide

-- ---- the two forms

pub each_form : (P : Form → Type 0) → P Old → P New → (form : Form) → P form
each_form P old new Old = old
each_form P old new New = new

pub other-other : (form : Form) → other_form (other_form form) ≡ form
unfolding other_form
other-other = each_form (λ (f : Form). other_form (other_form f) ≡ f) refl refl

module _ (form : Form) where
  pub form_wide : 8 ≤ (layout_of form).distance
  unfolding layout_of
  form_wide = each_form (λ (f : Form). 8 ≤ (layout_of f).distance) (omega arith) (omega arith) form

  pub form_narrow : (layout_of form).distance ≤ 15
  unfolding layout_of
  form_narrow = each_form (λ (f : Form). (layout_of f).distance ≤ 15) (omega arith) (omega arith) form

  form_most : (layout_of form).most ≤ 31
  unfolding layout_of
  form_most = each_form (λ (f : Form). (layout_of f).most ≤ 31) (omega arith) (omega arith) form

  pub form_unit : (0 < (layout_of form).unit) × ((layout_of form).unit ≤ 10)
  unfolding layout_of
  form_unit = each_form (λ (f : Form). (0 < (layout_of f).unit) × ((layout_of f).unit ≤ 10)) (omega arith, omega arith) (omega arith, omega arith) form

  pub regular_in : Regular (profile_in form)
  regular_in = regular (layout_of form).distance form_wide

-- with the width and the limit of a form, the header can say what is written, and no more
pub sayable : (form : Form) → Sayable (profile_in form) (layout_of form).most
unfolding layout_of
sayable = each_form (λ (f : Form). Sayable (profile_in f) (layout_of f).most) (of Old (λ n few. omega arith)) (of New (λ n few. omega arith))
  where
    of : (form : Form) → ((n : ℕ) → n ≤ (layout_of form).most → bytes_for (bits_with (layout_of form).distance n) ≤ 127) → Sayable (profile_in form) (layout_of form).most
    of form short = record {
      kinds = omega arith;
      counts = omega (arith, form_most form);
      lengths = λ list n few. omega (arith, short n few, bits_for_lem (layout_of form).distance (form_wide form) list n);
    }

pub full : (form : Form) → Full (profile_in form) (layout_of form).most
unfolding layout_of
full = each_form (λ (f : Form). Full (profile_in f) (layout_of f).most)
    (λ s short. omega (arith, field_lt s 11 5))
    (λ s short. omega (arith, bits-read distance_width (omega arith) s))

-- WHAT IS PROMISED of gates read and written, of either form
pub promised_in : (form : Form) → Promised (profile_in form) (layout_of form).most
promised_in form = every (profile_in form) (layout_of form).most (regular_in form) (omega arith) (sayable form) (full form)

-- and so of those that the bench reads and writes
pub promised : Promised gate_profile most_gates
unfolding layout_of
promised = promised_in New
