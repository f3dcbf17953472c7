-- Laws of `Fields`, each once for every width: what a read gives of what was written, and what a write leaves alone.
use mathlib.Core.Path.{◌≡◌, refl, sym, ap, ap₂, ◌∙◌}
use mathlib.Core.List.{List}
use mathlib.Core.Logic.{⊎_elim, ⊎_map, ◌⊎◌, inl, inr, ◌≢◌}
use native.Mathlib.Decide.{ℕ_discrete}
use lib.Arith.{digits_lt}
use Prim.Native.Nat.{ℕ, zero, suc, ◌+◌, ◌-◌, ◌*◌, ◌/◌, ◌%◌, ◌^◌, ◌≤◌, ◌<◌}
use native.Mathlib.Nat.{add-zero, add-suc, add_assoc, pow-suc, mod-lt, mul_assoc, mul-add-mod_self_right, mod-eq_of_lt, eq-or-lt_of_le, zero-div, mul-add-div_right, mul_comm, mod-one, div-one}
use native.Mathlib.Omega.{arith}
use lib.ListN.{length, get_or, set, take, length-set, get_or-eq_default}
use lib.Seq.{get_or-set_same, get_or-set_other, set_out, ext_get_or, get_or-take}
use lib.Pow.{pow_pos, pow-add, high, shr-shr, shr_lt, split, mod-pow-add, mod-mod-pow}
use lib.Pow.{field as mod-pow-div}
use native.Mathlib.Numerals.{add-one, one-add}
use Rattle.numbers.specs.Fields.{bit_at, field, with_digit, put_bit, put}
pub use Rattle.numbers.proofs.Logic.{lt_or_le}

-- ---- reading

pub field-zero : (s : List ℕ) (p : ℕ) → field s p 0 ≡ 0
unfolding field
field-zero s p = refl

pub field-suc : (s : List ℕ) (p w : ℕ) → field s p (suc w) ≡ field s p w * 2 + bit_at s (p + w)
unfolding field
field-suc s p w = refl

pub bit_lt : (s : List ℕ) (p : ℕ) → bit_at s p < 2
unfolding bit_at
bit_lt s p = omega arith

pub field_lt : (s : List ℕ) (p w : ℕ) → field s p w < 2 ^ w
unfolding field
field_lt s p zero = omega arith
field_lt s p (suc w) = rw pow-suc (omega (arith, field_lt s p w, bit_lt s (p + w)))

-- past the end every bit is 0
pub bit_past : (s : List ℕ) (p : ℕ) → length s ≤ p / 8 → bit_at s p ≡ 0
unfolding bit_at
bit_past s p l = rw (get_or-eq_default s 0 l, zero-div)

-- a field is fixed by its bits
pub field_ext : (s t : List ℕ) (p w : ℕ) → ((i : ℕ) → i < w → bit_at s (p + i) ≡ bit_at t (p + i)) → field s p w ≡ field t p w
unfolding field
field_ext s t p zero h = refl
field_ext s t p (suc w) h =
    ap₂ (λ (a b : ℕ). a * 2 + b) (field_ext s t p w (λ i l. h i (omega arith))) (h w (omega arith))

-- the fields of a list that lie in its first n bytes are those of these bytes
pub field-front : (s : List ℕ) (p w n : ℕ) → p + w ≤ 8 * n → field (take n s) p w ≡ field s p w
unfolding bit_at
field-front s p w n h = field_ext (take n s) s p w (λ i l. rw (get_or-take n s ((p + i) / 8) 0 (omega arith)))

-- a field is a field, and the field behind it
pub field-add : (s : List ℕ) (p a b : ℕ) → field s p (a + b) ≡ field s p a * 2 ^ b + field s (p + a) b
unfolding field
field-add s p a zero = rw add-zero (omega arith)
field-add s p a (suc b) =
    let e : field s p (a + b) ≡ field s p a * 2 ^ b + field s (p + a) b = field-add s p a b in
    rw (add-suc, pow-suc, field-suc, ← mul_assoc, e, add_assoc) (omega arith)

-- the bits of one byte
bit_in : (s : List ℕ) (i k : ℕ) → k < 8 → bit_at s (8 * i + k) ≡ get_or s i 0 / 2 ^ (7 - k) % 2
unfolding bit_at
bit_in s i k l =
    ap₂ (λ (a b : ℕ). get_or s a 0 / 2 ^ (7 - b) % 2) {x = (8 * i + k) / 8} {y = i} (omega arith) (omega arith)

-- a field within one byte: w bits of it, with k bits above and m below
pub field_in : (s : List ℕ) (i k w m : ℕ) → k + w + m ≡ 8 → field s (8 * i + k) w ≡ get_or s i 0 / 2 ^ m % 2 ^ w
unfolding field
field_in s i k zero m e = sym (mod-one (get_or s i 0 / 2 ^ m))
field_in s i k (suc w) m e =
    let x : ℕ = get_or s i 0 in
    let up : field s (8 * i + k) w ≡ x / 2 ^ suc m % 2 ^ w = field_in s i k w (suc m) (omega arith) in
    let here : bit_at s (8 * i + k + w) ≡ x / 2 ^ m % 2 =
    rw add_assoc (bit_in s i (k + w) (omega arith) ∙ ap (λ (n : ℕ). x / 2 ^ n % 2) (omega arith)) in
    let half : x / 2 ^ suc m ≡ x / 2 ^ m / 2 = ap (λ (n : ℕ). x / 2 ^ n) (sym (add-one m)) ∙ sym (shr-shr x m 1) in
    let whole : x / 2 ^ m % 2 ^ suc w ≡ (x / 2 ^ m / 2 % 2 ^ w) * 2 + x / 2 ^ m % 2 =
    ap (λ (n : ℕ). x / 2 ^ m % 2 ^ n) (sym (add-one w)) ∙ mod-pow-add (x / 2 ^ m) w 1 in
    cc

-- a byte is the field of its 8 bits
pub field-byte : (s : List ℕ) (i : ℕ) → get_or s i 0 < 256 → field s (8 * i) 8 ≡ get_or s i 0
field-byte s i h =
    ap (λ (p : ℕ). field s p 8) (sym (add-zero (8 * i))) ∙ field_in s i 0 8 0 refl ∙ ap (λ (n : ℕ). n % 256) (div-one (get_or s i 0)) ∙ mod-eq_of_lt h

-- ---- writing one digit of a number

-- the digits below k are those of r alone
low_digit : (a r j d : ℕ) → (a * 2 ^ (j + suc d) + r) / 2 ^ j % 2 ≡ r / 2 ^ j % 2
low_digit a r j d =
    let e : a * 2 ^ (j + suc d) ≡ (a * 2 ^ d * 2) * 2 ^ j =
    ap (λ (n : ℕ). a * n) (pow-add 2 j (suc d) ∙ mul_comm (2 ^ j) (2 ^ suc d))
    ∙ sym (mul_assoc a (2 ^ suc d) (2 ^ j))
    ∙ ap (λ (n : ℕ). n * 2 ^ j) (ap (λ (n : ℕ). a * n) (pow-suc 2 d) ∙ sym (mul_assoc a (2 ^ d) 2)) in
    rw (e, mul-add-div_right (pow_pos j)) (mul-add-mod_self_right (a * 2 ^ d) 2 (r / 2 ^ j))

digit_same : (x k b : ℕ) → b < 2 → with_digit x k b / 2 ^ k % 2 ≡ b
unfolding with_digit
digit_same x k b l = rw (high (x / 2 ^ k / 2 * 2 + b) k (mod-lt x (pow_pos k))) (omega arith)

digit_above : (x k b d : ℕ) → b < 2 → with_digit x k b / 2 ^ (k + suc d) ≡ x / 2 ^ (k + suc d)
unfolding with_digit
digit_above x k b d l =
    let y : ℕ = x / 2 ^ k / 2 * 2 + b in
    let cut : (n : ℕ) → n / 2 ^ (k + suc d) ≡ n / 2 ^ k / 2 / 2 ^ d =
    λ n. sym (shr-shr n k (suc d)) ∙ ap (λ (e : ℕ). n / 2 ^ k / 2 ^ e) (sym (one-add d)) ∙ sym (shr-shr (n / 2 ^ k) 1 d) in
    let half : y / 2 ≡ x / 2 ^ k / 2 = omega arith in
    cut (y * 2 ^ k + x % 2 ^ k) ∙ ap (λ (n : ℕ). n / 2 / 2 ^ d) (high y k (mod-lt x (pow_pos k))) ∙ ap (λ (n : ℕ). n / 2 ^ d) half
    ∙ sym (cut x)

digit_below : (x j b d : ℕ) → with_digit x (j + suc d) b / 2 ^ j % 2 ≡ x / 2 ^ j % 2
unfolding with_digit
digit_below x j b d =
    let k : ℕ = j + suc d in
    low_digit (x / 2 ^ k / 2 * 2 + b) (x % 2 ^ k) j d
    ∙ sym (low_digit (x / 2 ^ k) (x % 2 ^ k) j d)
    ∙ ap (λ (n : ℕ). n / 2 ^ j % 2) (split x k)

-- a digit stays within the width
digit_lt : (x k b d : ℕ) → b < 2 → x < 2 ^ (suc d + k) → with_digit x k b < 2 ^ (suc d + k)
unfolding with_digit
digit_lt x k b d l f =
    let q : x / 2 ^ k < 2 ^ d * 2 = rw pow-suc at (shr_lt (suc d) k f) in
    rw (pow-add 2 (suc d) k, pow-suc)
    (digits_lt {q = x / 2 ^ k / 2 * 2 + b} {m = 2 ^ d * 2} {r = x % 2 ^ k} {c = 2 ^ k} (omega arith) (mod-lt x (pow_pos k)))

pub digit_byte_lem : (x k b : ℕ) → k ≤ 7 → b < 2 → x < 256 → with_digit x k b < 256
digit_byte_lem x k b h l f =
    let e : suc (7 - k) + k ≡ 8 = omega arith in
    rw e at (digit_lt x k b (7 - k) l (rw e f))

-- ---- writing one bit

pub length-put_bit : (s : List ℕ) (p b : ℕ) → length (put_bit s p b) ≡ length s
unfolding put_bit
length-put_bit s p b = simp length-set

pub bit_put_bit : (s : List ℕ) (p b : ℕ) → b < 2 → p / 8 < length s → bit_at (put_bit s p b) p ≡ b
unfolding bit_at put_bit
bit_put_bit s p b l h = rw (get_or-set_same s (p / 8) (with_digit (get_or s (p / 8) 0) (7 - p % 8) b) 0) (digit_same (get_or s (p / 8) 0) (7 - p % 8) b l)

-- two digits of one byte
digit_other : (x i j b : ℕ) → b < 2 → i < 8 → j < 8 → i ≢ j → with_digit x (7 - i) b / 2 ^ (7 - j) % 2 ≡ x / 2 ^ (7 - j) % 2
digit_other x i j b l hi hj ne =
    ⊎_elim
    (λ h.
    let e : 7 - i ≡ 7 - j + suc (j - i - 1) = omega arith in
    rw e (digit_below x (7 - j) b (j - i - 1)))
    (λ h.
    let e : 7 - j ≡ 7 - i + suc (i - j - 1) = omega arith in
    rw e (ap (λ (n : ℕ). n % 2) (digit_above x (7 - i) b (i - j - 1) l)))
    (lt_or_le i j)

-- every other bit stays
pub bit_put_bit_other : (s : List ℕ) (p q b : ℕ) → b < 2 → p ≢ q → bit_at (put_bit s p b) q ≡ bit_at s q
unfolding bit_at put_bit
bit_put_bit_other s p q b l ne = of (ℕ_discrete (q / 8) (p / 8))
  where
    v : ℕ
    v = with_digit (get_or s (p / 8) 0) (7 - p % 8) b

    of : Dec (q / 8 ≡ p / 8) → get_or (set s (p / 8) v) (q / 8) 0 / 2 ^ (7 - q % 8) % 2 ≡ get_or s (q / 8) 0 / 2 ^ (7 - q % 8) % 2
    of (no h) = rw (get_or-set_other s (p / 8) (q / 8) v 0 h)
    of (yes h) =
        ⊎_elim
        (λ k.
        rw (h, get_or-set_same s (p / 8) v 0 k)
        (digit_other (get_or s (p / 8) 0) (p % 8) (q % 8) b l (omega arith) (omega arith) (omega arith)))
        (λ k. rw (set_out s (p / 8) v k))
        (lt_or_le (p / 8) (length s))

-- ---- writing a field

pub length-put : (s : List ℕ) (p w v : ℕ) → length (put s p w v) ≡ length s
unfolding put
length-put s p zero v = refl
length-put s p (suc w) v = length-put (put_bit s (p + w) (v % 2)) p w (v / 2) ∙ length-put_bit s (p + w) (v % 2)

pub put-zero : (s : List ℕ) (p v : ℕ) → put s p 0 v ≡ s
unfolding put
put-zero s p v = refl

pub put-suc : (s : List ℕ) (p w v : ℕ) → put s p (suc w) v ≡ put (put_bit s (p + w) (v % 2)) p w (v / 2)
unfolding put
put-suc s p w v = refl

-- a bit outside the field stays
pub bit_put_out : (s : List ℕ) (p w v q : ℕ) → (q < p) ⊎ (p + w ≤ q) → bit_at (put s p w v) q ≡ bit_at s q
unfolding put
bit_put_out s p zero v q h = refl
bit_put_out s p (suc w) v q h =
    bit_put_out (put_bit s (p + w) (v % 2)) p w (v / 2) q (⊎_map (λ a. a) (λ a. omega arith) h)
    ∙ bit_put_bit_other s (p + w) q (v % 2) (omega arith) (⊎_elim (λ a. omega arith) (λ a. omega arith) h)

-- what was written is read
pub field_put : (s : List ℕ) (p w v : ℕ) → p + w ≤ 8 * length s → v < 2 ^ w → field (put s p w v) p w ≡ v
unfolding put field
field_put s p zero v h f = omega arith
field_put s p (suc w) v h f =
    let t : List ℕ = put_bit s (p + w) (v % 2) in
    let g : v < 2 ^ w * 2 = rw pow-suc at f in
    let e : field (put t p w (v / 2)) p w ≡ v / 2 =
    field_put t p w (v / 2) (rw length-put_bit (omega arith)) (omega arith) in
    let last : bit_at (put t p w (v / 2)) (p + w) ≡ v % 2 =
    bit_put_out t p w (v / 2) (p + w) (inr (omega arith)) ∙ bit_put_bit s (p + w) (v % 2) (omega arith) (omega arith) in
    rw (e, last) (omega arith)

-- a field that does not meet the one written stays
pub field_put_out : (s : List ℕ) (p w v q n : ℕ) → (q + n ≤ p) ⊎ (p + w ≤ q) → field (put s p w v) q n ≡ field s q n
field_put_out s p w v q n h =
    field_ext (put s p w v) s q n
    (λ i l. bit_put_out s p w v (q + i) (⊎_map (λ a. omega arith) (λ a. omega arith) h))

-- writing what t has at a bit position makes the bits there those of t
pub bit_put_field : (s t : List ℕ) (p w q : ℕ) → q < 8 * length s → p ≤ q → q < p + w → bit_at (put s p w (field t p w)) q ≡ bit_at t q
unfolding put field
bit_put_field s t p zero q h a b = omega arith
bit_put_field s t p (suc w) q h a b =
    let v : ℕ = field t p (suc w) in
    let z : bit_at t (p + w) < 2 = bit_lt t (p + w) in
    let up : v / 2 ≡ field t p w = omega arith in
    let low : v % 2 ≡ bit_at t (p + w) = omega arith in
    let u : List ℕ = put_bit s (p + w) (v % 2) in
    rw up
    (⊎_elim
    (λ e. rw e (bit_put_out u p w (field t p w) (p + w) (inr (omega arith)) ∙ bit_put_bit s (p + w) (v % 2) (omega arith) (omega arith) ∙ low))
    (λ l. bit_put_field u t p w q (rw length-put_bit (omega arith)) a l)
    (eq-or-lt_of_le {n = q} {m = p + w} (omega arith)))

-- ---- bytes

-- every element is a byte
abbrev pub Bytes : List ℕ → Type 0
Bytes s = (i : ℕ) → get_or s i 0 < 256

pub bytes-put_bit : (s : List ℕ) (p b : ℕ) → b < 2 → Bytes s → Bytes (put_bit s p b)
unfolding put_bit
bytes-put_bit s p b l h i = of (ℕ_discrete i (p / 8))
  where
    v : ℕ
    v = with_digit (get_or s (p / 8) 0) (7 - p % 8) b

    fits : v < 256
    fits = digit_byte_lem (get_or s (p / 8) 0) (7 - p % 8) b (omega arith) l (h (p / 8))

    of : Dec (i ≡ p / 8) → get_or (set s (p / 8) v) i 0 < 256
    of (no n) = rw (get_or-set_other s (p / 8) i v 0 n) (h i)
    of (yes e) =
        ⊎_elim
        (λ k. rw (e, get_or-set_same s (p / 8) v 0 k) fits)
        (λ k. rw (set_out s (p / 8) v k) (h i))
        (lt_or_le (p / 8) (length s))

pub bytes-put : (s : List ℕ) (p w v : ℕ) → Bytes s → Bytes (put s p w v)
unfolding put
bytes-put s p zero v h = h
bytes-put s p (suc w) v h = bytes-put (put_bit s (p + w) (v % 2)) p w (v / 2) (bytes-put_bit s (p + w) (v % 2) (omega arith) h)

-- two bytes with the same 8 bits are the same
pub same_byte : (s t : List ℕ) (i : ℕ) → Bytes s → Bytes t → ((q : ℕ) → 8 * i ≤ q → q < 8 * i + 8 → bit_at s q ≡ bit_at t q) → get_or s i 0 ≡ get_or t i 0
same_byte s t i hs ht h =
    sym (field-byte s i (hs i))
    ∙ field_ext s t (8 * i) 8 (λ k m. h (8 * i + k) (omega arith) (omega arith))
    ∙ field-byte t i (ht i)

-- two lists of bytes with the same first 8 * n bits have the same first n bytes
pub same_bytes : (s t : List ℕ) (n i : ℕ) → Bytes s → Bytes t → ((q : ℕ) → q < 8 * n → bit_at s q ≡ bit_at t q) → i < n → get_or s i 0 ≡ get_or t i 0
same_bytes s t n i hs ht h l = same_byte s t i hs ht (λ q a b. h q (omega arith))

-- writing what is read at a bit position changes nothing, also where it reaches past the end
pub put-field : (s : List ℕ) (p w : ℕ) → Bytes s → put s p w (field s p w) ≡ s
put-field s p w hs =
    ext_get_or 0 (put s p w (field s p w)) s (length-put s p w (field s p w))
    (λ i l.
    let e : length (put s p w (field s p w)) ≡ length s = length-put s p w (field s p w) in
    same_bytes (put s p w (field s p w)) s (suc i) i (bytes-put s p w (field s p w) hs) hs
    (λ q m. bit_put_self q (omega arith)) (omega arith))
  where
    inside : (q : ℕ) → q < 8 * length s → p ≤ q → (q < p + w) ⊎ (p + w ≤ q) → bit_at (put s p w (field s p w)) q ≡ bit_at s q
    inside q h a (inl b) = bit_put_field s s p w q h a b
    inside q h a (inr b) = bit_put_out s p w (field s p w) q (inr b)

    bit_put_self : (q : ℕ) → q < 8 * length s → bit_at (put s p w (field s p w)) q ≡ bit_at s q
    bit_put_self q h =
        ⊎_elim
        (λ a. bit_put_out s p w (field s p w) q (inl a))
        (λ a. inside q h a (lt_or_le q (p + w)))
        (lt_or_le q p)

-- ---- past the end

-- a field past the end is 0
pub field_past : (s : List ℕ) (p n : ℕ) → length s ≤ p / 8 → field s p n ≡ 0
unfolding field
field_past s p zero h = refl
field_past s p (suc n) h =
    let e : bit_at s (p + n) ≡ 0 = bit_past s (p + n) (omega arith) in
    omega (arith, field_past s p n h)

put_bit_past : (s : List ℕ) (p b : ℕ) → length s ≤ p / 8 → put_bit s p b ≡ s
unfolding put_bit
put_bit_past s p b h = set_out s (p / 8) (with_digit (get_or s (p / 8) 0) (7 - p % 8) b) h

-- and putting one there does nothing
pub put_past : (s : List ℕ) (p w v : ℕ) → length s ≤ p / 8 → put s p w v ≡ s
unfolding put
put_past s p zero v h = refl
put_past s p (suc w) v h =
    rw (put_bit_past s (p + w) (v % 2) (omega arith)) (put_past s p w (v / 2) h)

-- ---- fields side by side, written

-- a field is written as the field behind and the field before
pub put-add : (s : List ℕ) (p a b v : ℕ) → put s p (a + b) v ≡ put (put s (p + a) b v) p a (v / 2 ^ b)
unfolding put
put-add s p a zero v = rw (add-zero, div-one)
put-add s p a (suc b) v =
    let half : v / 2 / 2 ^ b ≡ v / 2 ^ suc b = shr-shr v 1 b ∙ ap (λ (n : ℕ). v / 2 ^ n) (one-add b) in
    rw (add-suc, put-suc, ← add_assoc p a b, ← half) (put-add (put_bit s (p + a + b) (v % 2)) p a b (v / 2))

-- only the low w digits are written
pub put-mod : (s : List ℕ) (p w v : ℕ) → put s p w v ≡ put s p w (v % 2 ^ w)
unfolding put
put-mod s p zero v = refl
put-mod s p (suc w) v =
    let low : v % 2 ^ suc w % 2 ≡ v % 2 = ap (λ (n : ℕ). v % 2 ^ n % 2) (sym (add-one w)) ∙ mod-mod-pow v w 1 in
    let up : v % 2 ^ suc w / 2 ≡ v / 2 % 2 ^ w = ap (λ (n : ℕ). v % 2 ^ n / 2) (sym (add-one w)) ∙ mod-pow-div v w 1 in
    rw (low, up) (put-mod (put_bit s (p + w) (v % 2)) p w (v / 2))

-- the 8 bits of a byte, written, are that byte stored
pub put_byte : (s : List ℕ) (i x : ℕ) → Bytes s → i < length s → put s (8 * i) 8 x ≡ set s i (x % 256)
put_byte s i x hs h =
    ext_get_or 0 t (set s i (x % 256)) (length-put s (8 * i) 8 x ∙ sym (length-set s i (x % 256)))
    (λ j l. at j (ℕ_discrete j i))
  where
    t : List ℕ
    t = put s (8 * i) 8 x

    here : get_or t i 0 ≡ x % 256
    here =
        sym (field-byte t i (bytes-put s (8 * i) 8 x hs i)) ∙ ap (λ (l : List ℕ). field l (8 * i) 8) (put-mod s (8 * i) 8 x)
        ∙ field_put s (8 * i) 8 (x % 256) (omega arith) (mod-lt x (pow_pos 8))

    at : (j : ℕ) → Dec (j ≡ i) → get_or t j 0 ≡ get_or (set s i (x % 256)) j 0
    at j (yes e) = rw (e, get_or-set_same s i (x % 256) 0 h) here
    at j (no n) =
        rw (get_or-set_other s i j (x % 256) 0 n)
        (same_byte t s j (bytes-put s (8 * i) 8 x hs) hs (λ q a b. bit_put_out s (8 * i) 8 x q (apart j n q a b)))
      where
        apart : (j : ℕ) → (j ≡ i → ⊥) → (q : ℕ) → 8 * j ≤ q → q < 8 * j + 8 → (q < 8 * i) ⊎ (8 * i + 8 ≤ q)
        apart j n q a b = ⊎_map (λ l. omega arith) (λ l. omega arith) (lt_or_le q (8 * i))
