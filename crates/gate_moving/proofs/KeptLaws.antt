-- Laws of gates that are kept as the number that their bits are: their distances judged, and restated.
use mathlib.Core.Path.{◌≡◌, refl, sym, ap, ap₂, ◌∙◌}
use mathlib.Core.List.{List, ◌∷◌, ◌++◌}
use Prim.Native.Nat.{ℕ, zero, suc, ◌+◌, ◌-◌, ◌*◌, ◌/◌, ◌%◌, ◌≤◌, ◌<◌}
use native.Mathlib.Nat.{mod-eq_of_lt}
use native.Mathlib.Omega.{arith}
use lib.ListN.{length, get_or, drop}
use lib.Seq.{slice}
use Rattle.numbers.specs.Fields.{put}
use Rattle.numbers.specs.Pieces.{total, times, pack}
use Rattle.numbers.proofs.FieldLaws.{Bytes}
use Rattle.numbers.proofs.PieceLaws.{pack-append, pack_extra}
use Rattle.framing.specs.Refusals.{none, or_else}
use Rattle.framing.specs.Refusals.{Refusal}
use Rattle.framing.proofs.RefusalLaws.{same_number, or_else_go, ends}
use Rattle.gates.specs.Gates.{gate_bits, gate_widths}
use Rattle.gates.specs.Forms.{layout_of, other_form}
use Rattle.gates.specs.declared.forms.Form.{Form}
use Rattle.gates.proofs.GateLaws.{form_wide, total-gate}
use Rattle.gates.proofs.PutLaws.{pair_of, gate_digits, gate-put}
use Rattle.gate_reading.specs.Steps.{digits, spread}
use Rattle.gate_reading.proofs.ReadingLaws.{first-gate}
use Rattle.gate_moving.specs.Moving.{metres_of, distance_refusal, distances_refusal, restated_distance, restated}

-- ---- one gate

-- the number without its distance is its other fields, one cut off after the other
cut_number : (g : ℕ) → g % 1048576 ≡ g / 1024 % 1024 * 1024 + g % 1024
cut_number g = omega arith

cut_suffix : (g : ℕ) → g % 1024 ≡ g / 128 % 8 * 128 + g % 128
cut_suffix g = omega arith

cut_manning : (g : ℕ) → g % 128 ≡ g / 64 % 2 * 64 + g % 64
cut_manning g = omega arith

cut_class : (g : ℕ) → g % 64 ≡ g / 8 % 8 * 8 + g % 8
cut_class g = omega arith

cut_whistling : (g : ℕ) → g % 8 ≡ g / 4 % 2 * 4 + g % 4
cut_whistling g = omega arith

sum_cut : (n s m c w a b d x y z : ℕ) → n ≡ a + s → s ≡ b + m → m ≡ d + c → c ≡ x + w → w ≡ y + z → n ≡ a + (b + d) + (x + y + z)
sum_cut n s m c w a b d x y z e₁ e₂ e₃ e₄ e₅ = omega arith

fields_joined : (g : ℕ) → g % 1048576 ≡ g / 1024 % 1024 * 1024 + (g / 128 % 8 * 128 + g / 64 % 2 * 64) + (g / 8 % 8 * 8 + g / 4 % 2 * 4 + g % 4)
fields_joined g = sum_cut _ _ _ _ _ _ _ _ _ _ _ (cut_number g) (cut_suffix g) (cut_manning g) (cut_class g) (cut_whistling g)

-- what is cut already stays when it is cut again
again : (x w : ℕ) → x < w → x % w ≡ x
again x w l = mod-eq_of_lt l

-- the bytes of a gate with another distance, which two bytes hold, and its number
abbrev with_distance : ℕ → ℕ → List ℕ
with_distance far g = far / 256 % 256 ∷ far % 256 ∷ drop 2 (digits g)

pub two_bytes : (x : ℕ) → x % 65536 ≡ x / 256 % 256 * 256 + x % 256
two_bytes x = omega arith

number_again : (x : ℕ) → x < 1024 → x ≡ (x / 256 * 256 + x % 256) % 1024
number_again x l = omega arith

number-with : (far g : ℕ) → far % 65536 * 1048576 + g % 1048576
    ≡ gate_digits (pair_of (with_distance far g) 0 1) (pair_of (with_distance far g) 2 3) (g / 128 % 8) (g / 64 % 2) (g / 8 % 8) (g / 4 % 2) (g % 4)
number-with far g =
    ap₂ (λ (x y : ℕ). x * 1048576 + y) (two_bytes far) (fields_joined g)
    ∙ sum_again (far / 256 % 256 * 256 + far % 256) _ _ _ _ _ _
    ∙ (λ i. (far / 256 % 256 * 256 + far % 256) * 1048576 + number_again (g / 1024 % 1024) (omega arith) i * 1024 + (sym (again (g / 128 % 8) 8 (omega arith)) i * 128 + sym (again (g / 64 % 2) 2 (omega arith)) i * 64)
    + (sym (again (g / 8 % 8) 8 (omega arith)) i * 8 + sym (again (g / 4 % 2) 2 (omega arith)) i * 4 + sym (again (g % 4) 4 (omega arith)) i))
  where
    sum_again : (f n a b c d e : ℕ) → f * 1048576 + (n * 1024 + (a * 128 + b * 64) + (c * 8 + d * 4 + e)) ≡ f * 1048576 + n * 1024 + (a * 128 + b * 64) + (c * 8 + d * 4 + e)
    sum_again f n a b c d e = omega arith

-- so a gate with its distance restated is put as one number
module _ (from : Form) (gate : ℕ) where
  abbrev far : ℕ
  far = restated_distance from (digits gate)

  -- its bytes are bytes
  bytes-with : Bytes (with_distance far gate)
  bytes-with zero = omega arith
  bytes-with (suc zero) = omega arith
  bytes-with (suc (suc zero)) = omega arith
  bytes-with (suc (suc (suc zero))) = omega arith
  bytes-with (suc (suc (suc (suc zero)))) = omega arith
  bytes-with (suc (suc (suc (suc (suc zero))))) = omega arith
  bytes-with (suc (suc (suc (suc (suc (suc zero)))))) = omega arith
  bytes-with (suc (suc (suc (suc (suc (suc (suc zero))))))) = omega arith
  bytes-with (suc (suc (suc (suc (suc (suc (suc (suc zero)))))))) = omega arith
  bytes-with (suc (suc (suc (suc (suc (suc (suc (suc (suc k))))))))) = omega arith

  pub one-put : (o : List ℕ) (p : ℕ) → Bytes o
      → put o p (gate_bits (layout_of (other_form from)).distance) (far % 65536 * 1048576 + gate % 1048576)
      ≡ pack o p (gate_widths (layout_of (other_form from)).distance) (restated from (digits gate) 1)
  unfolding restated
  one-put o p ho =
      ap (put o p (gate_bits (layout_of (other_form from)).distance)) (number-with far gate)
      ∙ gate-put (layout_of (other_form from)).distance o p (with_distance far gate) (form_wide (other_form from)) ho bytes-with (omega arith)

-- ---- the walks over the gates, a turn at a time

pub distances-none : (from : Form) (p : ℕ) (list : List ℕ) → distances_refusal from p list 0 ≡ none
unfolding distances_refusal
distances-none from p list = refl

module _ (from : Form) (kept : List ℕ) (i n : ℕ) (h : i < n) (long : n ≤ length kept) where
  abbrev gate : ℕ
  gate = get_or kept i 0

  abbrev behind : List ℕ
  behind = slice (i + 1) n kept

  abbrev to : Form
  to = other_form from

  first : slice i n kept ≡ gate ∷ behind
  first = first-gate kept i n h long

  count : suc (n - i - 1) ≡ n - i
  count = omega arith

  -- the distances stop at one that is refused, and go on past one that is not
  module _ (p : ℕ) (a : Refusal) (e : a ≡ distance_refusal to p (metres_of from (digits gate))) where
    abbrev next : ℕ
    next = p + gate_bits (layout_of from).distance

    distances-more : or_else (distance_refusal to p (metres_of from (digits gate))) (distances_refusal from next (spread behind) (n - i - 1))
        ≡ distances_refusal from p (spread (slice i n kept)) (n - i)
    unfolding distances_refusal spread
    distances-more = λ j. distances_refusal from p (spread (sym first j)) (count j)

    pub distances-stop : (a.number ≡ 0 → ⊥) → a ≡ distances_refusal from p (spread (slice i n kept)) (n - i)
    distances-stop ne = ends _ _ e ne ∙ distances-more

    pub distances_go : a.number ≡ 0 → distances_refusal from next (spread behind) (n - i - 1) ≡ distances_refusal from p (spread (slice i n kept)) (n - i)
    distances_go z = sym (or_else_go _ _ (sym (same_number e) ∙ z)) ∙ distances-more

  -- a gate put in the other form, and then those behind it
  pub put-more : (o : List ℕ) (p : ℕ) → let ws = gate_widths (layout_of to).distance in
      pack (pack o p ws (restated from (digits gate) 1)) (p + gate_bits (layout_of to).distance) (times (n - i - 1) ws) (restated from (spread behind) (n - i - 1))
      ≡ pack o p (times (n - i) ws) (restated from (spread (slice i n kept)) (n - i))
  unfolding restated spread times gate_widths
  put-more o p =
      let ws : List ℕ = gate_widths (layout_of to).distance in
      let this : List ℕ = restated from (digits gate) 1 in
      let rest : List ℕ = restated from (spread behind) (n - i - 1) in
      let more : List ℕ = times (n - i - 1) ws in
      ap (λ (t : ℕ). pack (pack o p ws this) (p + t) more rest) (sym (total-gate (layout_of to).distance (form_wide to)))
      ∙ sym (pack-append o p ws more (this ++ rest) ∙ ap (λ (l : List ℕ). pack l (p + total ws) more rest) (pack_extra o p ws this rest refl))
      ∙ (λ j. pack o p (times (count j) ws) (restated from (spread (sym first j)) (count j)))
