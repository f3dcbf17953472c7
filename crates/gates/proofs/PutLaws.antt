-- Laws of a gate, and of the header, put as one number each.
use mathlib.Core.Path.{◌≡◌, sym, ap, ap₂, ◌∙◌}
use mathlib.Core.List.{List, [], ◌∷◌}
use Prim.Native.Nat.{ℕ, ◌+◌, ◌-◌, ◌*◌, ◌%◌, ◌≤◌}
use native.Mathlib.Nat.{add_assoc, mod-eq_of_lt}
use native.Mathlib.Omega.{arith}
use lib.ListN.{length, get_or, drop}
use lib.Seq.{get_or-drop}
use Rattle.numbers.specs.Fields.{put}
use Rattle.numbers.specs.Pieces.{total, pack}
use Rattle.numbers.specs.Numbers.{put_number}
use Rattle.numbers.proofs.FieldLaws.{Bytes}
use Rattle.numbers.proofs.JoinedLaws.{joined, joined_step, pack_joined, pack-first}
use Rattle.gates.specs.Gates.{gate_type, gate_bytes, gate_widths, gate_bits, behind_first}

-- the number that two bytes of a list are
abbrev pub pair_of : List ℕ → ℕ → ℕ → ℕ
pair_of list i j = get_or list i 0 * 256 + get_or list j 0

-- two bytes side by side are the same number from byte i on, where the first of them is byte k
pub pair_drop : (list : List ℕ) (i k : ℕ) → pair_of list (i + k) (i + k + 1) ≡ pair_of (drop i list) k (k + 1)
pair_drop list i k =
    ap₂ (λ (a b : ℕ). a * 256 + b) (sym (get_or-drop i list k 0)) (ap (λ (n : ℕ). get_or list n 0) (add_assoc i k 1) ∙ sym (get_or-drop i list (k + 1) 0))

-- the number of a gate with this distance, number, suffix, manning, class, whistling and whistling type
abbrev pub gate_digits : ℕ → ℕ → ℕ → ℕ → ℕ → ℕ → ℕ → ℕ
gate_digits far number a b c d e = far * 1048576 + number % 1024 * 1024 + (a % 8 * 128 + b % 2 * 64) + (c % 8 * 8 + d % 2 * 4 + e % 4)

-- and the number of a gate's bytes
abbrev pub gate_number : List ℕ → ℕ
gate_number gate =
    gate_digits (pair_of gate 0 1) (pair_of gate 2 3) (get_or gate 4 0) (get_or gate 5 0) (get_or gate 6 0) (get_or gate 7 0) (get_or gate 8 0)

-- which its pieces are, one behind the other
pub joined_gate : (list : List ℕ) → Bytes list → gate_bytes ≤ length list → get_or list 0 0 * 268435456 + joined behind_first (drop 1 list) ≡ gate_number list
unfolding joined total
joined_gate list hs l =
    let w₈ : List ℕ = 2 ∷ [] in
    let w₇ : List ℕ = 1 ∷ w₈ in
    let w₆ : List ℕ = 3 ∷ w₇ in
    let w₅ : List ℕ = 1 ∷ w₆ in
    let w₄ : List ℕ = 3 ∷ w₅ in
    let w₃ : List ℕ = 8 ∷ w₄ in
    let w₂ : List ℕ = 2 ∷ w₃ in
    let number : pair_of list 2 3 % 1024 ≡ get_or list 2 0 % 4 * 256 + get_or list 3 0 = omega (arith, hs 3) in
    omega (arith, number, mod-eq_of_lt (hs 1), mod-eq_of_lt (hs 3), joined_step 8 w₂ list 1 (omega arith), joined_step 2 w₃ list 2 (omega arith), joined_step 8 w₄ list 3 (omega arith), joined_step 3 w₅ list 4 (omega arith), joined_step 1 w₆ list 5 (omega arith), joined_step 3 w₇ list 6 (omega arith), joined_step 1 w₈ list 7 (omega arith), joined_step 2 [] list 8 (omega arith))

module _ (distance : ℕ) (o : List ℕ) (p : ℕ) (list : List ℕ) (h : 8 ≤ distance) (ho : Bytes o) (hs : Bytes list) (l : gate_bytes ≤ length list) where
  pub gate-put : put o p (gate_bits distance) (gate_number list) ≡ pack o p (gate_widths distance) list
  unfolding gate_widths total
  gate-put =
      let e : gate_bits distance ≡ distance - 8 + 28 = omega arith in
      ap₂ (put o p) e (sym (joined_gate list hs l)) ∙ sym (pack-first o p (distance - 8) behind_first list ho (omega arith))

-- type, length and count are one number
pub header_put_lem : (o : List ℕ) (size n : ℕ) → Bytes o → put_number 2 o 0 (gate_type * 4096 + size % 128 * 32 + n % 32) ≡ pack o 0 (4 ∷ 7 ∷ 5 ∷ []) (gate_type ∷ size ∷ n ∷ [])
unfolding joined total
header_put_lem o size n ho =
    let e : gate_type * 4096 + size % 128 * 32 + n % 32 ≡ joined (4 ∷ 7 ∷ 5 ∷ []) (gate_type ∷ size ∷ n ∷ []) = omega arith in
    ap (put o 0 16) e ∙ sym (pack_joined o 0 (4 ∷ 7 ∷ 5 ∷ []) (gate_type ∷ size ∷ n ∷ []) ho (omega arith))
