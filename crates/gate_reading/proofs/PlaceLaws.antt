-- WHERE A GATE READ SAYS THAT IT BROKE: of a gate that is refused, which of its fields is at fault, at any width of the distance
-- from 8 to 15. What answer and place say together is proved of any profile (profiles/proofs/PlaceLaws).
use mathlib.Core.Path.{◌≡◌, refl, sym, ap, subst, ◌∙◌}
use mathlib.Core.List.{List}
use mathlib.Core.Logic.{⊎_elim, ◌⊎◌, inl, inr}
use Prim.Native.Nat.{ℕ, suc, ◌+◌, ◌*◌, ◌/◌, ◌%◌, ◌^◌, ◌≤◌, ◌<◌}
use native.Mathlib.Nat.{div-one, mul-suc, mul-le-mul_left}
use native.Mathlib.Omega.{arith}
use borrow.Author.Tests.{ltb-true, ltb-false}
use Rattle.numbers.specs.Fields.{field}
use Rattle.numbers.specs.Pieces.{total}
use Rattle.numbers.proofs.FieldLaws.{lt_or_le}
use Rattle.numbers.proofs.PieceLaws.{total-times}
use Rattle.numbers.proofs.WithinLaws.{field_within}
use Rattle.framing.specs.Framing.{length_of}
use Rattle.framing.specs.Refusals.{Refusal}
use Rattle.framing.proofs.RefusalLaws.{tested, tried}
use Rattle.fields.specs.FirstSet.{FirstOf}
use Rattle.profiles.specs.Profiles.{Profile, count_of, padding_for}
use Rattle.profiles.specs.Reading.{read_answer}
use Rattle.profiles.specs.Places.{entry_at, entry_of, ruled_at, FirstRefused}
use Rattle.profiles.proofs.PlaceLaws.{Told, answer-told}
use Rattle.profiles.proofs.PlaceLaws.{place_of_4 as entry-of-4, place_of_5 as padding-of-5}
use Rattle.gates.specs.Gates.{gate_profile, gate_profile_with, distance_width, gate_widths, gate_bits, bits_with, last_number, last_suffix, last_class, last_whistle, gate_rules, gate_refusal}
use Rattle.gates.proofs.GateLaws.{regular, total-gate, widths_at_lem, bits-read}
use Rattle.gate_reading.specs.Places.{Judged, number, suffix, class, whistle, start_of, width_of, least_of, most_of, Allowed, place_of, value_of, FirstWrong}
use Rattle.gate_reading.proofs.ReadingLaws.{gate-digits, digits-ruled}

-- ---- one gate

-- what holds of each judged field holds of any
each : (P : Judged → Type 0) → P number → P suffix → P class → P whistle → (f : Judged) → P f
each P a b c d number = a
each P a b c d suffix = b
each P a b c d class = c
each P a b c d whistle = d

module _ (distance : ℕ) (value : Judged → ℕ) where
  -- the field that starts at p is the first that is not allowed
  record Wrong (p : ℕ) : Type 0 where
    judged : Judged
    place : p ≡ start_of distance judged
    wrong : Allowed judged (value judged) → ⊥
    before : (f : Judged) → start_of distance f < p → Allowed f (value f)

  data GateTold (r : Refusal) : Type 0 where
    allowed : r.number ≡ 0 → ((f : Judged) → Allowed f (value f)) → GateTold r
    refused : r.number ≡ 4 → Wrong r.place → GateTold r

  -- the first of the four tests that fails tells the field
  gate-told : GateTold (gate_rules distance (value number) (value suffix) (value class) (value whistle))
  unfolding gate_rules start_of least_of most_of
  gate-told =
      tried GateTold _ _ _ _ (λ e. at number (λ a. omega (arith, ltb-true (value number) 1 e)) first)
      (λ n₁. tried GateTold _ _ _ _ (λ e. at number (λ a. omega (arith, ltb-true last_number (value number) e)) first)
      (λ n₂. let n : Allowed number (value number) = (ltb-false _ _ n₁, ltb-false _ _ n₂) in
      tried GateTold _ _ _ _ (λ e. at suffix (λ a. omega (arith, ltb-true last_suffix (value suffix) e)) (each _ (λ l. n) (λ l. absurd (omega arith)) (λ l. absurd (omega arith)) (λ l. absurd (omega arith))))
      (λ s₁. let s : Allowed suffix (value suffix) = (omega arith, ltb-false _ _ s₁) in
      tried GateTold _ _ _ _ (λ e. at class (λ a. omega (arith, ltb-true last_class (value class) e)) (each _ (λ l. n) (λ l. s) (λ l. absurd (omega arith)) (λ l. absurd (omega arith))))
      (λ c₁. let c : Allowed class (value class) = (omega arith, ltb-false _ _ c₁) in
      tested GateTold _ _ (λ e. at whistle (λ a. omega (arith, ltb-true last_whistle (value whistle) e)) (each _ (λ l. n) (λ l. s) (λ l. c) (λ l. absurd (omega arith))))
      (λ w₁. allowed refl (each _ n s c (omega arith, ltb-false _ _ w₁)))))))
    where
      at : (f : Judged) → (Allowed f (value f) → ⊥) → ((g : Judged) → start_of distance g < start_of distance f → Allowed g (value g))
          → GateTold (record { number = 4; place = start_of distance f })
      at f h b = refused refl (record { judged = f; place = refl; wrong = h; before = b })

      -- nothing stands before a gate's number but its distance
      first : (f : Judged) → start_of distance f < start_of distance number → Allowed f (value f)
      first = each _ (λ l. absurd (omega arith)) (λ l. absurd (omega arith)) (λ l. absurd (omega arith)) (λ l. absurd (omega arith))

-- ---- gate by gate

-- the judged fields lie within their gate
start_in_gate : (distance : ℕ) (f : Judged) → start_of distance f < gate_bits distance
unfolding start_of
start_in_gate distance = each _ (omega arith) (omega arith) (omega arith) (omega arith)

module _ (distance : ℕ) (wide : 8 ≤ distance) (narrow : distance ≤ 15) (s : List ℕ) (p : ℕ) where
  abbrev f : Profile
  f = gate_profile_with distance

  abbrev value : ℕ → Judged → ℕ
  value = value_of distance s p

  -- where a gate starts
  start : (i : ℕ) → entry_at f s p i ≡ p + gate_bits distance * i
  start i =
      ap (λ (ws : List ℕ). p + total ws) (widths_at_lem distance s p i)
      ∙ ap (λ (t : ℕ). p + t) (total-times i (gate_widths distance) (gate_bits distance) (total-gate distance wide))

  -- its rules are those on the values of its judged fields
  ruled : (i : ℕ) → ruled_at f s p i ≡ gate_rules distance (value i number) (value i suffix) (value i class) (value i whistle)
  unfolding start_of width_of gate_widths
  ruled i =
      let q : ℕ = p + gate_bits distance * i in
      let x : ℕ = field s q (gate_bits distance) in
      let cut : (k w m : ℕ) → k + w + m ≡ gate_bits distance → x / 2 ^ m % 2 ^ w ≡ field s (q + k) w = λ k w m e.
      ap (λ (t : ℕ). field s q t / 2 ^ m % 2 ^ w) (sym e) ∙ sym (field_within s q k w m) in
      let last : x % 4 ≡ x / 1 % 4 = ap (λ (n : ℕ). n % 4) (sym (div-one x)) in
      ap (λ (t : ℕ). gate_refusal distance (entry_of f s t)) (start i)
      ∙ ap (gate_refusal distance) (gate-digits distance s wide narrow q)
      ∙ sym (digits-ruled distance x)
      ∙ (λ j. gate_rules distance (cut distance 10 10 (omega arith) j) (cut (distance + 10) 3 7 (omega arith) j) (cut (distance + 14) 3 3 (omega arith) j) ((last ∙ cut (distance + 18) 2 0 (omega arith)) j))

  told_at_lem : (i : ℕ) → GateTold distance (value i) (ruled_at f s p i)
  told_at_lem i = subst (GateTold distance (value i)) (sym (ruled i)) (gate-told distance (value i))

  -- a gate that the rules do not refuse is allowed
  all_allowed : (i : ℕ) → (ruled_at f s p i).number ≡ 0 → (g : Judged) → Allowed g (value i g)
  all_allowed i z = of (told_at_lem i)
    where
      of : GateTold distance (value i) (ruled_at f s p i) → (g : Judged) → Allowed g (value i g)
      of (allowed e all) = all
      of (refused e w) = absurd (omega arith)

  one-wrong : (i : ℕ) → (ruled_at f s p i).number ≡ 4 → Wrong distance (value i) (ruled_at f s p i).place
  one-wrong i four = of (told_at_lem i)
    where
      of : GateTold distance (value i) (ruled_at f s p i) → Wrong distance (value i) (ruled_at f s p i).place
      of (allowed e all) = absurd (omega arith)
      of (refused e w) = w

  -- OF THE FIRST GATE THAT IS REFUSED the place is the first field that is not allowed
  pub first-wrong : (n q : ℕ) → FirstRefused f s p n q → FirstWrong distance s p n q
  first-wrong n q r = record {
    gate = r.entry;
    judged = w.judged;
    there = r.there;
    place = at;
    wrong = w.wrong;
    before = λ i g l. before i g l (⊎_elim (λ less. inl less) (λ e. inr e) (less_or_not i));
  }
    where
      w : Wrong distance (value r.entry) (ruled_at f s p r.entry).place
      w = one-wrong r.entry r.refused

      at : q ≡ place_of distance p r.entry w.judged
      at = omega (arith, r.place, start r.entry, w.place)

      less_or_not : (i : ℕ) → (i < r.entry) ⊎ (r.entry ≤ i)
      less_or_not i = lt_or_le i r.entry

      before : (i : ℕ) (g : Judged) → place_of distance p i g < q → (i < r.entry) ⊎ (r.entry ≤ i) → Allowed g (value i g)
      before i g l (inl less) = all_allowed i (r.before i less) g
      before i g l (inr le) =
          let more : gate_bits distance * suc r.entry ≤ gate_bits distance * i → ⊥ = λ h. omega (arith, at, mul-suc (gate_bits distance) r.entry, start_in_gate distance w.judged) in
          let same : i ≡ r.entry = ⊎_elim (λ (h : i < suc r.entry). omega arith) (λ (h : suc r.entry ≤ i). absurd (more (mul-le-mul_left (gate_bits distance) h))) (lt_or_le i (suc r.entry)) in
          subst (λ (k : ℕ). Allowed g (value k g)) (sym same) (w.before g (omega (arith, at, w.place, ap (λ (k : ℕ). gate_bits distance * k) same)))

-- ---- so of a gate read

-- of a 4 the place is the first field that is not allowed, and lies within the sub-packet
pub place_of_4 : (distance : ℕ) → 8 ≤ distance → distance ≤ 15 → {s : List ℕ} {r : Refusal} → Told (gate_profile_with distance) s r → r.number ≡ 4
    → FirstWrong distance s 16 (count_of (gate_profile_with distance) s) r.place × (r.place < 8 * length_of s)
place_of_4 distance wide narrow {s} t e =
    let x = entry-of-4 t e in
    (first-wrong distance wide narrow s 16 _ _ x.0, x.1)

-- of a 5 it is the first bit that is set behind so many gates as the count says
pub place_of_5 : (distance : ℕ) → 8 ≤ distance → {s : List ℕ} {r : Refusal} → Told (gate_profile_with distance) s r → r.number ≡ 5
    → FirstOf s (bits_with distance (count_of (gate_profile_with distance) s)) (padding_for (bits_with distance (count_of (gate_profile_with distance) s))) r.place × (r.place < 8 * length_of s)
place_of_5 distance wide {s} {r} t e =
    let x = padding-of-5 t e in
    (subst (λ (bits : ℕ). FirstOf s bits (padding_for bits) r.place) (bits-read distance wide s) x.0, x.1)

-- ALL OF THIS OF THE ANSWER of a gate read, by its number and its place
pub gates_told : (s o : List ℕ) → Told gate_profile s (record { number = (read_answer gate_profile s o).answer; place = (read_answer gate_profile s o).place })
gates_told = answer-told gate_profile (regular distance_width (omega arith))
