-- Laws of gate reading.
use mathlib.Core.Path.{◌≡◌, refl, sym, ap, ap₂, subst, ◌∙◌}
use mathlib.Core.List.{List, [], ◌∷◌, ◌++◌}
use Prim.Native.Nat.{ℕ, zero, suc, ◌+◌, ◌-◌, ◌*◌, ◌/◌, ◌%◌, ◌^◌, ◌≤◌, ◌<◌}
use native.Mathlib.Nat.{div-one, one-mul, lt_of_lt_of_le}
use native.Mathlib.Numerals.{add-one}
use native.Mathlib.Omega.{arith}
use Rattle.std.specs.Prelude.{Result, Ok, Err, is_err, true, false}
use Rattle.std.proofs.lemmas.List.{take_all, append-nil}
use lib.ListN.{length, get_or, set, take, drop, drop_of_length-le}
use lib.Seq.{sets, sets-eq, length-sets, length-take-le, slice, slice-cons, take_at}
use lib.Pow.{shr_mod, pow_mono}
use Rattle.numbers.specs.Fields.{field}
use Rattle.numbers.specs.Pieces.{total, times, unpack}
use Rattle.framing.specs.Refusals.{none, no_room, or_else, unless_refused, moved_by}
use Rattle.framing.specs.Refusals.{Refusal}
use Rattle.framing.proofs.RefusalLaws.{same_number, or_else_go, next, ends, not_below, last_not_below}
use Rattle.numbers.proofs.FieldLaws.{field-add, field_lt}
use Rattle.numbers.proofs.PieceLaws.{length-unpack, length-times, unpack-append, sets-append}
use Rattle.numbers.proofs.WithinLaws.{cut, unpack_cut}
use Rattle.profiles.specs.Profiles.{Profile, count_of, padding_for, rules_refusal}
use Rattle.profiles.specs.Reading.{entries_of, bits_of, end_refusal}
use Rattle.profiles.proofs.ProfileLaws.{rules-none}
use Rattle.profiles.proofs.ReadingLaws.{each, each_run}
use Rattle.gates.specs.Gates.{gate_profile_with, gate_bytes, gate_widths, gate_bits, bits_with, gate_rules, gate_refusal, told_field}
use Rattle.gates.proofs.GateLaws.{total-gate, widths_at_lem, bits-read}
use Rattle.gate_reading.specs.Steps.{first_gates, digits, spread}

-- ---- gates of one number each

module _ (distance : ℕ) (s : List ℕ) (wide : 8 ≤ distance) (narrow : distance ≤ 15) where
  abbrev ws : List ℕ
  ws = gate_widths distance

  pub gate-digits : (p : ℕ) → unpack s p ws ≡ digits (field s p (gate_bits distance))
  unfolding cut total gate_widths
  gate-digits p =
      let x : ℕ = field s p (gate_bits distance) in
      let below : x < 2 ^ gate_bits distance = field_lt s p (gate_bits distance) in
      let e : gate_bits distance ≡ distance - 8 + 28 = omega arith in
      let whole : x / 268435456 % 2 ^ (distance - 8) ≡ x / 268435456 = shr_mod (distance - 8) 28 (subst (λ (t : ℕ). x < 2 ^ t) e below) in
      let small : x < 2 ^ 35 = lt_of_lt_of_le below (pow_mono {i = gate_bits distance} {j = 35} (omega arith)) in
      let byte : x / 268435456 ≡ x / 1048576 / 256 % 256 = omega (arith, small) in
      let first = whole ∙ byte in
      let high : x / 262144 % 4 ≡ x / 1024 % 1024 / 256 = omega arith in
      let low : x / 1024 % 256 ≡ x / 1024 % 1024 % 256 = omega arith in
      let last : x / 1 % 4 ≡ x % 4 = ap (λ (n : ℕ). n % 4) (div-one x) in
      unpack_cut s p ws ∙ ap (λ (t : ℕ). cut (field s p t) ws) (total-gate distance wide)
      ∙ (λ i. first i ∷ x / 1048576 % 256 ∷ high i ∷ low i ∷ x / 128 % 8 ∷ x / 64 % 2 ∷ x / 8 % 8 ∷ x / 4 % 2 ∷ last i ∷ [])

  -- their bytes are the pieces
  pub spread-unpack : (n p : ℕ) → spread (unpack s p (times n (gate_bits distance ∷ []))) ≡ unpack s p (times n ws)
  unfolding spread unpack times
  spread-unpack zero p = refl
  spread-unpack (suc n) p =
      ap₂ (λ (a b : List ℕ). a ++ b) (sym (gate-digits p)) (spread-unpack n (p + gate_bits distance))
      ∙ ap (λ (t : ℕ). unpack s p ws ++ unpack s (p + t) (times n ws)) (sym (total-gate distance wide))
      ∙ sym (unpack-append s p ws (times n ws))

-- the rules on the bytes of a gate, whose two bytes of the number are one field
pub digits-ruled : (distance x : ℕ) → gate_rules distance (x / 1024 % 1024) (x / 128 % 8) (x / 8 % 8) (x % 4) ≡ gate_refusal distance (digits x)
unfolding gate_refusal
digits-ruled distance x =
    let number : x / 1024 % 1024 ≡ x / 1024 % 1024 / 256 * 256 + x / 1024 % 1024 % 256 = omega arith in
    ap (λ (n : ℕ). gate_rules distance n (x / 128 % 8) (x / 8 % 8) (x % 4)) number

-- the two bytes of a distance are its high and its low one
module _ (distance : ℕ) (s : List ℕ) (p : ℕ) (h : 8 ≤ distance) where
  pub distance_split : field s p distance ≡ field s p (distance - 8) * 256 + field s (p + (distance - 8)) 8
  distance_split =
      let e : distance ≡ distance - 8 + 8 = omega arith in
      ap (field s p) e ∙ field-add s p (distance - 8) 8

  pub distance_high : get_or (unpack s p (gate_widths distance)) 0 0 ≡ field s p distance / 256
  unfolding unpack gate_widths
  distance_high = omega (arith, distance_split, field_lt s (p + (distance - 8)) 8)

  pub distance_low : get_or (unpack s p (gate_widths distance)) 1 0 ≡ field s p distance % 256
  unfolding unpack gate_widths
  distance_low = omega (arith, distance_split, field_lt s (p + (distance - 8)) 8)

-- the bytes of a gate are stored
pub stored : (o : List ℕ) (k x : ℕ)
    → set (set (set (set (set (set (set (set (set o k (x / 1048576 / 256 % 256)) (k + 1) (x / 1048576 % 256)) (k + 2) (x / 1024 % 1024 / 256)) (k + 3) (x / 1024 % 1024 % 256)) (k + 4) (x / 128 % 8)) (k + 5) (x / 64 % 2)) (k + 6) (x / 8 % 8)) (k + 7) (x / 4 % 2)) (k + 8) (x % 4)
    ≡ sets o k (digits x)
unfolding each
stored o k x =
    let first : ℕ = x / 1048576 / 256 % 256 in
    let more : List ℕ = drop 1 (digits x) in
    each_run (set o k first) k 1 more ∙ ap (λ (n : ℕ). sets (set o k first) n more) (add-one k)

-- what a judgement of a gate's fields tells, by whether it is an error
pub field_right : {T : Type 0} (r : Result T ℕ) → is_err r ≡ false → (told_field r).number ≡ 0
field_right (Ok x) e = refl
field_right (Err p) e = absurd (cc)

pub field_wrong : {T : Type 0} (r : Result T ℕ) → is_err r ≡ true → (told_field r).number ≡ 0 → ⊥
field_wrong (Ok x) e z = cc
field_wrong (Err p) e z = omega arith

-- ---- the walks over the gates, a turn at a time

-- a gate kept, and then those behind it
pub load_more : (s : List ℕ) (p b m : ℕ) (kept : List ℕ) (k : ℕ) → 0 < m
    → sets (set kept k (field s p b)) (k + 1) (unpack s (p + b) (times (m - 1) (b ∷ []))) ≡ sets kept k (unpack s p (times m (b ∷ [])))
unfolding unpack times
load_more s p b m kept k h =
    let n : suc (m - 1) ≡ m = omega arith in
    ap (λ (j : ℕ). sets (set kept k (field s p b)) j (unpack s (p + b) (times (m - 1) (b ∷ [])))) (add-one k)
    ∙ ap (λ (t : ℕ). sets kept k (unpack s p (times t (b ∷ [])))) n

-- the rules on a first gate, and on those behind it
pub rules-suc : (distance p x : ℕ) (more : List ℕ) (n : ℕ) → 8 ≤ distance
    → rules_refusal (gate_profile_with distance) p (spread (x ∷ more)) (suc n)
    ≡ or_else (moved_by p (gate_refusal distance (digits x))) (rules_refusal (gate_profile_with distance) (p + gate_bits distance) (spread more) n)
unfolding rules_refusal gate_refusal spread gate_widths
rules-suc distance p x more n wide =
    ap (λ (t : ℕ). or_else (moved_by p (gate_refusal distance (digits x))) (rules_refusal (gate_profile_with distance) (p + t) (spread more) n)) (total-gate distance wide)

module _ (kept : List ℕ) (i n : ℕ) (h : i < n) (long : n ≤ length kept) where
  abbrev gate : ℕ
  gate = get_or kept i 0

  abbrev behind : List ℕ
  behind = slice (i + 1) n kept

  -- the first gate, and those behind
  pub first-gate : slice i n kept ≡ gate ∷ behind
  first-gate = slice-cons i n kept 0 h long ∙ ap (λ (k : ℕ). gate ∷ slice k n kept) (sym (add-one i))

  -- the rules on it stop at a gate that is refused, and go on past one that is not
  module _ (distance p : ℕ) (wide : 8 ≤ distance) (a : Refusal) (e : a ≡ gate_refusal distance (digits gate)) where
    abbrev rules : ℕ → List ℕ → ℕ → Refusal
    rules = rules_refusal (gate_profile_with distance)

    rules-more : or_else (moved_by p (gate_refusal distance (digits gate))) (rules (p + gate_bits distance) (spread behind) (n - i - 1))
        ≡ rules p (spread (slice i n kept)) (n - i)
    rules-more =
        let m : suc (n - i - 1) ≡ n - i = omega arith in
        sym (rules-suc distance p gate behind (n - i - 1) wide) ∙ (λ j. rules p (spread (sym first-gate j)) (m j))

    pub rules-stop : (a.number ≡ 0 → ⊥) → moved_by p a ≡ rules p (spread (slice i n kept)) (n - i)
    rules-stop ne = ends _ _ (ap (moved_by p) e) ne ∙ rules-more

    pub rules_go : a.number ≡ 0 → rules (p + gate_bits distance) (spread behind) (n - i - 1) ≡ rules p (spread (slice i n kept)) (n - i)
    rules_go z = sym (or_else_go _ _ (sym (same_number e) ∙ z)) ∙ rules-more

  -- a gate stored, and then those behind it
  pub fill_more : (o : List ℕ) (k : ℕ) → sets (sets o k (digits gate)) (k + gate_bytes) (spread behind) ≡ sets o k (spread (slice i n kept))
  unfolding spread
  fill_more o k = sym (ap (λ (l : List ℕ). sets o k (spread l)) first-gate ∙ sets-append o k (digits gate) (spread behind))

-- what is put at the front of a part that a list begins with is put at the front of the list
pub front_kept : (kept gates : List ℕ) (n : ℕ) → length gates ≡ n → n ≤ length kept → sets (take n kept) 0 gates ++ drop n kept ≡ sets kept 0 gates
front_kept kept gates n e h =
    let long : length (take n kept) ≡ n = length-take-le n kept h in
    let behind : drop (0 + length gates) (take n kept) ≡ [] = drop_of_length-le (take n kept) (omega arith) in
    let at : 0 + length gates ≡ n = omega arith in
    ap (λ (l : List ℕ). l ++ drop n kept) (sets-eq gates (take n kept) 0 (omega arith) ∙ ap (λ (l : List ℕ). gates ++ l) behind ∙ append-nil gates)
    ∙ ap (λ (k : ℕ). gates ++ drop k kept) (sym at)
    ∙ sym (sets-eq gates kept 0 (omega arith))

-- ---- the gates taken

module _ (distance : ℕ) (s : List ℕ) where
  -- the bytes of the gates that were kept are those of the sub-packet
  pub kept_gates_lem : (n : ℕ) (blank : List ℕ) → 8 ≤ distance → distance ≤ 15 → n ≤ length blank
      → spread (slice 0 n (sets blank 0 (unpack s 16 (times n (gate_bits distance ∷ []))))) ≡ first_gates distance s n
  kept_gates_lem n blank wide narrow room =
      let gates : List ℕ = unpack s 16 (times n (gate_bits distance ∷ [])) in
      let long : length gates ≡ n = length-unpack s 16 (times n (gate_bits distance ∷ [])) ∙ length-times n (gate_bits distance ∷ []) 1 refl ∙ one-mul n in
      ap (λ (l : List ℕ). spread (slice 0 n l)) (sets-eq gates blank 0 (omega arith))
      ∙ ap spread (take_at gates (drop (0 + length gates) blank) n long)
      ∙ spread-unpack distance s wide narrow n 16

  -- the same of gates that were kept where there is room for just as many
  pub loaded : (kept : List ℕ) → 8 ≤ distance → distance ≤ 15
      → spread (sets kept 0 (unpack s 16 (times (length kept) (gate_bits distance ∷ [])))) ≡ first_gates distance s (length kept)
  loaded kept wide narrow =
      let all : List ℕ = sets kept 0 (unpack s 16 (times (length kept) (gate_bits distance ∷ []))) in
      ap spread (sym (take_all (length kept) all (omega (arith, length-sets kept 0 (unpack s 16 (times (length kept) (gate_bits distance ∷ [])))))))
      ∙ kept_gates_lem (length kept) kept wide narrow (omega arith)

  -- with no gates there is no padding, and no room is needed
  none-refused : (room : ℕ) → none ≡ or_else (rules_refusal (gate_profile_with distance) 16 (first_gates distance s 0) 0) (end_refusal s (bits_with distance 0) (gate_bytes * 0) room)
  unfolding end_refusal
  none-refused room =
      let e : padding_for (bits_with distance 0) ≡ 0 = omega arith in
      let padding : ℕ = field s (bits_with distance 0) (padding_for (bits_with distance 0)) in
      let l : padding < 1 = subst (λ (w : ℕ). field s (bits_with distance 0) w < 1) (sym e) (field_lt s (bits_with distance 0) 0) in
      next _ _ (same_number (rules-none (gate_profile_with distance) 16 _))
      (not_below 0 padding _ _ (omega arith) (last_not_below room (gate_bytes * 0) no_room (omega arith)))

  none_stored : (o : List ℕ) → o ≡ unless_refused 0 (sets o 0 (first_gates distance s 0)) o
  unfolding unless_refused times unpack
  none_stored o = refl

  pub none-taken : (n : ℕ) (o : List ℕ) → n ≡ 0
      → (none ≡ or_else (rules_refusal (gate_profile_with distance) 16 (first_gates distance s n) n) (end_refusal s (bits_with distance n) (gate_bytes * n) (length o)))
      × (o ≡ unless_refused 0 (sets o 0 (first_gates distance s n)) o)
  none-taken n o e = (
    none-refused (length o)
        ∙ (λ i. let m : ℕ = sym e i in or_else (rules_refusal (gate_profile_with distance) 16 (first_gates distance s m) m) (end_refusal s (bits_with distance m) (gate_bytes * m) (length o))),
    none_stored o ∙ (λ i. unless_refused 0 (sets o 0 (first_gates distance s (sym e i))) o),
  )

  -- the gates that the count says are the entries, and the refusal of the one is that of the other
  module _ (wide : 8 ≤ distance) (n : ℕ) (en : n ≡ count_of (gate_profile_with distance) s) where
    abbrev f : Profile
    f = gate_profile_with distance

    pub gates_entries : first_gates distance s n ≡ entries_of f s
    unfolding entries_of
    gates_entries = ap (first_gates distance s) en ∙ ap (unpack s 16) (sym (widths_at_lem distance s 16 (count_of f s)))

    pub gates_bits : bits_with distance n ≡ bits_of f s
    gates_bits = ap (bits_with distance) en ∙ sym (bits-read distance wide s)

    pub gates_refusal : (room : ℕ) → or_else (rules_refusal f 16 (first_gates distance s n) n) (end_refusal s (bits_with distance n) (gate_bytes * n) room)
        ≡ or_else (rules_refusal f 16 (entries_of f s) (count_of f s)) (end_refusal s (bits_of f s) (gate_bytes * count_of f s) room)
    gates_refusal room = λ i. or_else (rules_refusal f 16 (gates_entries i) (en i)) (end_refusal s (gates_bits i) (gate_bytes * en i) room)
