-- Laws of turnout reading.
use mathlib.Core.Path.{◌≡◌, refl, sym, ap, ap₂, ◌∙◌}
use mathlib.Core.List.{List, [], ◌∷◌}
use mathlib.Core.Bool.{Bool, true, false, not}
use Prim.Native.Nat.{ℕ, suc, ◌+◌, ◌-◌, ◌*◌, ◌/◌, ◌%◌, ◌^◌, ◌<◌}
use native.Mathlib.Nat.{add-zero, lt_of_lt_of_le}
use native.Mathlib.Numerals.{add-one}
use native.Mathlib.Omega.{arith}
use lib.ListN.{get_or, set, drop}
use lib.Pow.{pow_mono}
use lib.Seq.{sets}
use Rattle.numbers.specs.Fields.{field}
use Rattle.numbers.specs.Pieces.{total, unpack}
use Rattle.numbers.proofs.FieldLaws.{field_lt, field-add}
use Rattle.numbers.proofs.PieceLaws.{sets-append}
use Rattle.numbers.proofs.WithinLaws.{cut, unpack_cut}
use Rattle.framing.specs.Refusals.{not_allowed, refuse, or_else, moved_by}
use Rattle.framing.specs.Refusals.{Refusal}
use Rattle.framing.proofs.RefusalLaws.{or_else_go, ends}
use Rattle.profiles.specs.Profiles.{end_at, widths_at, rules_refusal}
use Rattle.profiles.specs.Places.{entry_at, entry_of}
use Rattle.profiles.proofs.ProfileLaws.{total-suc, unpack-suc, rules-suc, entry_long}
use Rattle.profiles.proofs.ReadingLaws.{each, each_run}
use Rattle.turnouts.specs.Turnouts.{turnout_profile, turnout_bytes, is_restricted, distances, absent, behind_speed, is_allowed}
use Rattle.turnouts.proofs.TurnoutLaws.{each_kind, behind_restricted, behind-other, few-behind, regular}
use Rattle.turnout_reading.specs.Steps.{digits}

-- ---- one turnout

-- the pieces behind a speed are the digits of the number that they make up, and 0 where there are none
abbrev Behind : List ℕ → ℕ → List ℕ → Type 0
Behind s p ws = unpack s p ws ≡ drop 1 (digits 0 (field s p (total ws)))

both : (s : List ℕ) (p : ℕ) → Behind s p distances
unfolding cut total
both s p =
    let x : ℕ = field s p 27 in
    let a : x / 1048576 % 128 ≡ x / 4096 / 256 = omega (arith, field_lt s p 27) in
    let c : x / 256 % 16 ≡ x % 4096 / 256 = omega arith in
    let d : x / 1 % 256 ≡ x % 4096 % 256 = omega arith in
    unpack_cut s p distances ∙ (λ i. a i ∷ x / 4096 % 256 ∷ c i ∷ d i ∷ [])

neither : (s : List ℕ) (p : ℕ) → Behind s p absent
unfolding unpack total field
neither s p = refl

-- so the two numbers have a turnout's bytes
pub turnout-digits : (s : List ℕ) (p speed x : ℕ) → speed ≡ field s p 5 → x ≡ field s (p + 5) (total (behind_speed speed)) → digits speed x ≡ entry_of turnout_profile s p
unfolding unpack
turnout-digits s p speed x es ex =
    ap (digits speed) ex
    ∙ ap (λ (l : List ℕ). speed ∷ l) (sym (each_kind (Behind s (p + 5)) (both s (p + 5)) (neither s (p + 5)) speed))
    ∙ ap (λ (v : ℕ). v ∷ unpack s (p + 5) (behind_speed v)) es

-- OF A TURNOUT THAT WAS READ the bytes are the paper's fields: 15 bits of distance behind the 5 of the speed, and 12 of release distance behind these
module _ (s : List ℕ) (p : ℕ) where
  abbrev pair : ℕ → ℕ → ℕ
  pair high low = get_or (entry_of turnout_profile s p) high 0 * 256 + get_or (entry_of turnout_profile s p) low 0

  module _ (restricted : is_restricted (field s p 5) ≡ true) where
    pub distance_read : pair 1 2 ≡ field s (p + 5) 15
    unfolding unpack
    distance_read =
        ap (λ (ws : List ℕ). get_or (unpack s (p + 5) ws) 0 0 * 256 + get_or (unpack s (p + 5) ws) 1 0) (behind_restricted (field s p 5) restricted)
        ∙ sym (field-add s (p + 5) 7 8)

    pub release-read : pair 3 4 ≡ field s (p + 20) 12
    unfolding unpack
    release-read =
        let e : p + 5 + 7 + 8 ≡ p + 20 = omega arith in
        ap (λ (ws : List ℕ). get_or (unpack s (p + 5) ws) 2 0 * 256 + get_or (unpack s (p + 5) ws) 3 0) (behind_restricted (field s p 5) restricted)
        ∙ sym (field-add s (p + 5 + 7 + 8) 4 8)
        ∙ ap (λ (q : ℕ). field s q 12) e

  -- and where the speed has none, zeros
  pub absent-read : is_restricted (field s p 5) ≡ false → entry_of turnout_profile s p ≡ field s p 5 ∷ 0 ∷ 0 ∷ 0 ∷ 0 ∷ []
  unfolding unpack field
  absent-read other = ap (λ (ws : List ℕ). field s p 5 ∷ unpack s (p + 5) ws) (behind-other (field s p 5) other)

pub distances-small : (s : List ℕ) (p speed : ℕ) → field s p (total (behind_speed speed)) < 2 ^ 27
distances-small s p speed = lt_of_lt_of_le (field_lt s p (total (behind_speed speed))) (pow_mono {i = total (behind_speed speed)} {j = 27} (few-behind speed))

-- the bytes stored
pub stored : (o : List ℕ) (k speed x : ℕ)
    → set (set (set (set (set o k speed) (k + 1) (x / 4096 / 256)) (k + 2) (x / 4096 % 256)) (k + 3) (x % 4096 / 256)) (k + 4) (x % 4096 % 256)
    ≡ sets o k (digits speed x)
unfolding each
stored o k speed x =
    let more : List ℕ = drop 1 (digits speed x) in
    each_run (set o k speed) k 1 more ∙ ap (λ (n : ℕ). sets (set o k speed) n more) (add-one k)

-- the place of a refused turnout is where it starts
refused_here : (allowed : Bool) (p : ℕ) → p ≡ p + (refuse (not allowed) (not_allowed 0)).place
unfolding refuse
refused_here true p = sym (add-zero p)
refused_here false p = sym (add-zero p)

-- ---- the walks over the turnouts, a turn at a time: m are left, and the first of them starts at bit p

module _ (s : List ℕ) (p m q : ℕ) (h : 0 < m) (eq : q ≡ end_at turnout_profile s p) where
  one_more : suc (m - 1) ≡ m
  one_more = omega arith

  -- where they end
  pub end_more : entry_at turnout_profile s q (m - 1) ≡ entry_at turnout_profile s p m
  end_more =
      ap (λ (t : ℕ). entry_at turnout_profile s t (m - 1)) eq ∙ sym (total-suc turnout_profile s p (m - 1)) ∙ ap (entry_at turnout_profile s p) one_more

  -- the rules on them
  abbrev rules : ℕ → ℕ → Refusal
  rules t n = rules_refusal turnout_profile t (unpack s t (widths_at turnout_profile s t n)) n

  abbrev refusal : Refusal
  refusal = refuse (not (is_allowed (field s p 5))) (not_allowed 0)

  rules-more : or_else (moved_by p refusal) (rules q (m - 1)) ≡ rules p m
  unfolding unpack
  rules-more =
      ap (λ (t : ℕ). or_else (moved_by p refusal) (rules t (m - 1))) eq ∙ sym (rules-suc turnout_profile regular s p (m - 1)) ∙ ap (rules p) one_more

  -- a speed that is not allowed ends the walk, and one that is hands on
  pub rules-stop : is_allowed (field s p 5) ≡ false → not_allowed p ≡ rules p m
  unfolding refuse
  rules-stop wrong =
      let at-fault : not_allowed p ≡ moved_by p refusal = λ i. record { number = (refuse (not (sym wrong i)) (not_allowed 0)).number; place = here i } in
      ends _ _ at-fault (λ z. omega arith) ∙ rules-more
    where
      here : p ≡ p + (refuse (not (is_allowed (field s p 5))) (not_allowed 0)).place
      here = refused_here (is_allowed (field s p 5)) p

  pub rules_go : is_allowed (field s p 5) ≡ true → rules q (m - 1) ≡ rules p m
  unfolding refuse
  rules_go right = sym (or_else_go (moved_by p refusal) _ (ap (λ (b : Bool). (refuse (not b) (not_allowed 0)).number) right)) ∙ rules-more

  -- bytes stored
  pub fill_more : (o : List ℕ) (k : ℕ)
      → sets (sets o k (entry_of turnout_profile s p)) (k + turnout_bytes) (unpack s q (widths_at turnout_profile s q (m - 1))) ≡ sets o k (unpack s p (widths_at turnout_profile s p m))
  fill_more o k =
      let entry : List ℕ = entry_of turnout_profile s p in
      ap₂ (λ (j t : ℕ). sets (sets o k entry) (k + j) (unpack s t (widths_at turnout_profile s t (m - 1)))) (sym (entry_long turnout_profile regular s p (field s p 5))) eq
      ∙ sym (sets-append o k entry (unpack s (end_at turnout_profile s p) (widths_at turnout_profile s (end_at turnout_profile s p) (m - 1))))
      ∙ ap (sets o k) (sym (unpack-suc turnout_profile s p (m - 1)) ∙ ap (λ (n : ℕ). unpack s p (widths_at turnout_profile s p n)) one_more)
