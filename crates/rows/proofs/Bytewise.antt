-- Rows of whole bytes: how numbers read and put one after the other make a row, and what is past the end.
use Prim.Native.Nat.{ℕ, zero, suc, ◌+◌, ◌-◌, ◌*◌, ◌/◌, ◌%◌, ◌≤◌, ◌<◌}
use mathlib.Core.List.{List, [], ◌∷◌, map}
use mathlib.Core.Logic.{⊎_elim, inl, inr}
use mathlib.Core.Path.{◌≡◌, refl, sym, ap, ◌∙◌}
use native.Mathlib.Nat.{add_assoc, eq-or-lt_of_le}
use native.Mathlib.Omega.{arith}
use lib.ListN.{length, get_or}
use Rattle.numbers.specs.Fields.{bit_at, field, put_bit, put}
use Rattle.numbers.specs.Numbers.{number_at, put_number}
use Rattle.numbers.specs.Pieces.{total, unpack, pack}
use Rattle.numbers.proofs.FieldLaws.{field_past, put_past, length-put, length-put_bit, bit_put_bit, bit_put_out, lt_or_le}
use Rattle.numbers.proofs.PieceLaws.{bit_pack_out}
use Rattle.rows.specs.Parts.{bits}

-- a number at byte i is the field at that byte's first bit
pub at_bit : (n : ℕ) (s : List ℕ) (i p : ℕ) → 8 * i ≡ p → number_at n s i ≡ field s p (8 * n)
at_bit n s i p e = ap (λ (q : ℕ). field s q (8 * n)) e

-- one number put at byte i, and then the rest of the row from byte j on
pub put_next : (n i j : ℕ) (ns s t r : List ℕ) (v : ℕ) (vs : List ℕ) → t ≡ put_number n s i v → j ≡ i + n
    → r ≡ pack t (8 * j) (bits ns) vs → r ≡ pack s (8 * i) (bits (n ∷ ns)) (v ∷ vs)
unfolding pack
put_next n i j ns s t r v vs e q h =
    let f : 8 * j ≡ 8 * i + 8 * n = omega arith in
    h ∙ (λ k. pack (e k) (f k) (bits ns) vs)

-- nothing is left of the row
pub put-done : (r : List ℕ) (p : ℕ) → r ≡ pack r p [] []
unfolding pack
put-done r p = refl

-- past the end every number reads as 0
pub unpack_past : (s : List ℕ) (p : ℕ) (ws : List ℕ) → length s ≤ p / 8 → unpack s p ws ≡ map (λ (w : ℕ). 0) ws
unfolding unpack
unpack_past s p [] h = refl
unpack_past s p (w ∷ ws) h = λ i. field_past s p w h i ∷ unpack_past s (p + w) ws (omega arith) i

-- and nothing is put there
pub pack_past : (s : List ℕ) (p : ℕ) (ws vs : List ℕ) → length s ≤ p / 8 → pack s p ws vs ≡ s
unfolding pack
pack_past s p [] vs h = refl
pack_past s p (w ∷ ws) [] h = refl
pack_past s p (w ∷ ws) (v ∷ vs) h = rw (put_past s p w v h) (pack_past s (p + w) ws vs (omega arith))

-- ---- what a row of bits depends on

-- a field is fixed by its bits, wherever they stand
pub field-same : (s t : List ℕ) (p q w : ℕ) → ((k : ℕ) → k < w → bit_at s (p + k) ≡ bit_at t (q + k)) → field s p w ≡ field t q w
unfolding field
field-same s t p q zero h = refl
field-same s t p q (suc w) h =
    λ i. field-same s t p q w (λ k l. h k (omega arith)) i * 2 + h w (omega arith) i

-- and so are the numbers of a row
pub unpack-same : (s t : List ℕ) (p q : ℕ) (ws : List ℕ) → ((k : ℕ) → k < total ws → bit_at s (p + k) ≡ bit_at t (q + k))
    → unpack s p ws ≡ unpack t q ws
unfolding unpack total
unpack-same s t p q [] h = refl
unpack-same s t p q (w ∷ ws) h =
    λ i. field-same s t p q w (λ k l. h k (omega arith)) i
    ∷ unpack-same s t (p + w) (q + w) ws
    (λ k l. rw (add_assoc p w k, add_assoc q w k) (h (w + k) (omega arith))) i

-- the bits that a number puts are its own, as far as there is room
put_same : (s t : List ℕ) (p q w v k : ℕ) → p + k < 8 * length s → q + k < 8 * length t → k < w
    → bit_at (put s p w v) (p + k) ≡ bit_at (put t q w v) (q + k)
unfolding put
put_same s t p q zero v k hs ht l = absurd (omega arith)
put_same s t p q (suc w) v k hs ht l =
    ⊎_elim
    (λ e.
    let at : (u : List ℕ) (b : ℕ) → b + w < 8 * length u → bit_at (put (put_bit u (b + w) (v % 2)) b w (v / 2)) (b + w) ≡ v % 2 =
    λ u b f. bit_put_out (put_bit u (b + w) (v % 2)) b w (v / 2) (b + w) (inr (omega arith)) ∙ bit_put_bit u (b + w) (v % 2) (omega arith) (omega arith) in
    rw e (at s p (omega arith) ∙ sym (at t q (omega arith))))
    (λ m.
    put_same (put_bit s (p + w) (v % 2)) (put_bit t (q + w) (v % 2)) p q w (v / 2) k
    (rw length-put_bit (omega arith)) (rw length-put_bit (omega arith)) m)
    (eq-or-lt_of_le {n = k} {m = w} (omega arith))

-- the bits that a row puts are those of its numbers, as far as there is room
pub pack-same : (s t : List ℕ) (p q : ℕ) (ws vs : List ℕ) (k : ℕ) → length ws ≡ length vs → p + k < 8 * length s
    → q + k < 8 * length t → k < total ws → bit_at (pack s p ws vs) (p + k) ≡ bit_at (pack t q ws vs) (q + k)
unfolding pack total
pack-same s t p q [] vs k e hs ht l = absurd (omega arith)
pack-same s t p q (w ∷ ws) [] k e hs ht l = absurd (omega arith)
pack-same s t p q (w ∷ ws) (v ∷ vs) k e hs ht l =
    ⊎_elim
    (λ m.
    bit_pack_out (put s p w v) (p + w) ws vs (p + k) (inl (omega arith))
    ∙ put_same s t p q w v k hs ht m
    ∙ sym (bit_pack_out (put t q w v) (q + w) ws vs (q + k) (inl (omega arith))))
    (λ m.
    let j : ℕ = k - w in
    let f : p + k ≡ p + w + j = omega arith in
    let g : q + k ≡ q + w + j = omega arith in
    rw (f, g)
    (pack-same (put s p w v) (put t q w v) (p + w) (q + w) ws vs j (omega arith) (rw length-put (omega arith)) (rw length-put (omega arith)) (omega arith)))
    (lt_or_le k w)

-- a bit of the byte k behind a byte
pub bit_of_byte : (s t : List ℕ) (a b n : ℕ) → ((k : ℕ) → k < n → get_or s (a + k) 0 ≡ get_or t (b + k) 0) → (q : ℕ) → q < 8 * n
    → bit_at s (8 * a + q) ≡ bit_at t (8 * b + q)
unfolding bit_at
bit_of_byte s t a b n h q l =
    let k : ℕ = q / 8 in
    let e : (8 * a + q) / 8 ≡ a + k = omega arith in
    let f : (8 * b + q) / 8 ≡ b + k = omega arith in
    let g : (8 * a + q) % 8 ≡ (8 * b + q) % 8 = omega arith in
    rw (e, f, g, h k (omega arith))
