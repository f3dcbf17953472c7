-- Pieces put as one field: the number that has their values as its digits, one behind the other.
use mathlib.Core.Path.{◌≡◌, refl, sym, ap, ap₂, ◌∙◌}
use mathlib.Core.List.{List, [], ◌∷◌}
use mathlib.Core.Logic.{⊎_elim, ◌⊎◌, inl, inr}
use Prim.Native.Nat.{ℕ, zero, suc, ◌+◌, ◌-◌, ◌*◌, ◌/◌, ◌%◌, ◌^◌, ◌≤◌, ◌<◌}
use native.Mathlib.Nat.{add_assoc, mod-lt, zero-div}
use native.Mathlib.Omega.{arith}
use lib.Arith.{digits_lt}
use lib.ListN.{length, get_or, drop}
use lib.Pow.{pow_pos, pow-add, high}
use lib.Pow.{low as low-digits}
use lib.Seq.{ext_get_or, drop-cons}
use Rattle.numbers.specs.Fields.{bit_at, put_bit, put}
use Rattle.numbers.specs.Pieces.{total, pack}
use Rattle.numbers.proofs.FieldLaws.{Bytes, bytes-put, same_byte, bit_put_bit, bit_past, length-put_bit, bit_put_out, length-put, put-add, put-mod, lt_or_le}

-- ---- one field put before another

-- two lists of bytes with the same bits are the same
same_bits : (s t : List ℕ) → Bytes s → Bytes t → length s ≡ length t → ((q : ℕ) → bit_at s q ≡ bit_at t q) → s ≡ t
same_bits s t hs ht n h = ext_get_or 0 s t n (λ i _. same_byte s t i hs ht (λ q _ _. h q))

-- what a bit is made does not hang on what it was
bit_put_bit_here : (s t : List ℕ) (p b : ℕ) → b < 2 → length s ≡ length t → bit_at (put_bit s p b) p ≡ bit_at (put_bit t p b) p
bit_put_bit_here s t p b l n =
    ⊎_elim
    (λ h. bit_put_bit s p b l h ∙ sym (bit_put_bit t p b l (omega arith)))
    (λ h. bit_past (put_bit s p b) p (rw length-put_bit h) ∙ sym (bit_past (put_bit t p b) p (rw length-put_bit (omega arith))))
    (lt_or_le (p / 8) (length s))

bit_put_in : (s t : List ℕ) (p w v q : ℕ) → length s ≡ length t → p ≤ q → q < p + w → bit_at (put s p w v) q ≡ bit_at (put t p w v) q
unfolding put
bit_put_in s t p zero v q n a b = absurd (omega arith)
bit_put_in s t p (suc w) v q n a b =
    let s₁ : List ℕ = put_bit s (p + w) (v % 2) in
    let t₁ : List ℕ = put_bit t (p + w) (v % 2) in
    ⊎_elim
    (λ (l : q < p + w). bit_put_in s₁ t₁ p w (v / 2) q (length-put_bit s (p + w) (v % 2) ∙ n ∙ sym (length-put_bit t (p + w) (v % 2))) a l)
    (λ (l : p + w ≤ q).
    let e : q ≡ p + w = omega arith in
    rw e
    (bit_put_out s₁ p w (v / 2) (p + w) (inr (omega arith))
    ∙ bit_put_bit_here s t (p + w) (v % 2) (omega arith) n
    ∙ sym (bit_put_out t₁ p w (v / 2) (p + w) (inr (omega arith)))))
    (lt_or_le q (p + w))

-- and what a put makes of any bit hangs on that bit alone
bit_put_same : (s t : List ℕ) (p w v q : ℕ) → length s ≡ length t → ((q < p) ⊎ (p + w ≤ q) → bit_at s q ≡ bit_at t q) → bit_at (put s p w v) q ≡ bit_at (put t p w v) q
bit_put_same s t p w v q n e =
    ⊎_elim (λ l. outside (inl l)) (λ a. ⊎_elim (λ b. bit_put_in s t p w v q n a b) (λ b. outside (inr b)) (lt_or_le q (p + w))) (lt_or_le q p)
  where
    outside : (q < p) ⊎ (p + w ≤ q) → bit_at (put s p w v) q ≡ bit_at (put t p w v) q
    outside o = bit_put_out s p w v q o ∙ e o ∙ sym (bit_put_out t p w v q o)

-- so the order in which a field and one behind it are put does not matter
pub put-apart : (s : List ℕ) (p w v q u x : ℕ) → Bytes s → p + w ≤ q → put (put s p w v) q u x ≡ put (put s q u x) p w v
put-apart s p w v q u x hs apart =
    same_bits (put a q u x) (put b p w v) (bytes-put a q u x (bytes-put s p w v hs)) (bytes-put b p w v (bytes-put s q u x hs))
    (length-put a q u x ∙ la ∙ sym lb ∙ sym (length-put b p w v)) bit
  where
    a : List ℕ
    a = put s p w v

    b : List ℕ
    b = put s q u x

    la : length a ≡ length s
    la = length-put s p w v

    lb : length b ≡ length s
    lb = length-put s q u x

    bit : (k : ℕ) → bit_at (put a q u x) k ≡ bit_at (put b p w v) k
    bit k =
        ⊎_elim
        (λ h. bit_put_out a q u x k (inl h) ∙ bit_put_same s b p w v k (sym lb) (λ _. sym (bit_put_out s q u x k (inl h))))
        (λ h. bit_put_same a s q u x k la (λ _. bit_put_out s p w v k (inr (omega arith))) ∙ sym (bit_put_out b p w v k (inr (omega arith))))
        (lt_or_le k q)

-- of two puts of one field the second counts
put_again : (s : List ℕ) (p w u v : ℕ) → Bytes s → put (put s p w u) p w v ≡ put s p w v
put_again s p w u v hs =
    let t : List ℕ = put s p w u in
    same_bits (put t p w v) (put s p w v) (bytes-put t p w v (bytes-put s p w u hs)) (bytes-put s p w v hs)
    (length-put t p w v ∙ length-put s p w u ∙ sym (length-put s p w v))
    (λ q. bit_put_same t s p w v q (length-put s p w u) (λ o. bit_put_out s p w u q o))

-- zeros put over the end of a field and behind it, and then the field: the field, and then the zeros behind it
cleared : (s : List ℕ) (p a k w x : ℕ) → Bytes s → put (put s (p + a) (k + w) 0) p (a + k) x ≡ put (put s p (a + k) x) (p + (a + k)) w 0
cleared s p a k w x hs =
    let z : List ℕ = put s (p + a + k) w 0 in
    let hz : Bytes z = bytes-put s (p + a + k) w 0 hs in
    ap (λ (l : List ℕ). put l p (a + k) x) (put-add s (p + a) k w 0 ∙ ap (put z (p + a) k) (zero-div (2 ^ w)))
    ∙ put-add (put z (p + a) k 0) p a k x
    ∙ ap (λ (l : List ℕ). put l p a (x / 2 ^ k)) (put_again z (p + a) k 0 x hz)
    ∙ sym (put-add z p a k x)
    ∙ sym (put-apart s p (a + k) x (p + a + k) w 0 hs (omega arith))
    ∙ ap (λ (q : ℕ). put (put s p (a + k) x) q w 0) (add_assoc p a k)

pub put_cleared : (s : List ℕ) (p t q b w x : ℕ) → Bytes s → p ≤ q → q ≤ p + t → p + t + w ≡ q + b → put (put s q b 0) p t x ≡ put (put s p t x) (p + t) w 0
put_cleared s p t q b w x hs h l e =
    let a : ℕ = q - p in
    let k : ℕ = p + t - q in
    let eq : q ≡ p + a = omega arith in
    let et : t ≡ a + k = omega arith in
    let eb : b ≡ k + w = omega arith in
    (λ i. put (put s (eq i) (eb i) 0) p (et i) x) ∙ cleared s p a k w x hs ∙ (λ i. put (put s p (sym et i) x) (p + sym et i) w 0)

-- ---- pieces as one number

-- the number whose digits are the values, each with as many digits as its piece is wide
unfoldable pub joined : List ℕ → List ℕ → ℕ
joined [] vs = 0
joined (w ∷ ws) [] = 0
joined (w ∷ ws) (v ∷ vs) = v % 2 ^ w * 2 ^ total ws + joined ws vs

joined_lt : (ws vs : List ℕ) → joined ws vs < 2 ^ total ws
unfolding joined total
joined_lt [] vs = omega arith
joined_lt (w ∷ ws) [] = pow_pos (w + total ws)
joined_lt (w ∷ ws) (v ∷ vs) = rw (pow-add 2 w (total ws)) (digits_lt (mod-lt v (pow_pos w)) (joined_lt ws vs))

-- a piece at a time: its value, above the number of those behind it
pub joined_step : (w : ℕ) (ws vs : List ℕ) (k : ℕ) → k < length vs
    → joined (w ∷ ws) (drop k vs) ≡ get_or vs k 0 % 2 ^ w * 2 ^ total ws + joined ws (drop (suc k) vs)
unfolding joined
joined_step w ws vs k h = rw (drop-cons vs k 0 h)

-- a number put over a field and the one behind it is its upper digits in the first, and its lower ones in the other
put_over : (s : List ℕ) (p w t v x : ℕ) → Bytes s → x < 2 ^ t → put s p (w + t) (v * 2 ^ t + x) ≡ put (put s p w v) (p + w) t x
put_over s p w t v x hs l =
    let low : (v * 2 ^ t + x) % 2 ^ t ≡ x = low-digits v t l in
    put-add s p w t (v * 2 ^ t + x)
    ∙ ap₂ (λ (m : List ℕ) (y : ℕ). put m p w y) (put-mod s (p + w) t (v * 2 ^ t + x) ∙ ap (put s (p + w) t) low) (high v t l)
    ∙ sym (put-apart s p w v (p + w) t x hs (omega arith))

-- pieces are put as one field
pub pack_joined : (s : List ℕ) (p : ℕ) (ws vs : List ℕ) → Bytes s → length ws ≤ length vs → pack s p ws vs ≡ put s p (total ws) (joined ws vs)
unfolding pack joined total put
pack_joined s p [] vs hs l = refl
pack_joined s p (w ∷ ws) [] hs l = absurd (omega arith)
pack_joined s p (w ∷ ws) (v ∷ vs) hs l =
    pack_joined (put s p w v) (p + w) ws vs (bytes-put s p w v hs) (omega arith)
    ∙ ap (λ (m : List ℕ). put m (p + w) (total ws) (joined ws vs)) (put-mod s p w v)
    ∙ sym (put_over s p w (total ws) (v % 2 ^ w) (joined ws vs) hs (joined_lt ws vs))

-- and the value of the first goes in as it is, since the field has room for no more of its digits than the piece
pub pack-first : (s : List ℕ) (p w : ℕ) (ws vs : List ℕ) → Bytes s → length ws < length vs
    → pack s p (w ∷ ws) vs ≡ put s p (w + total ws) (get_or vs 0 0 * 2 ^ total ws + joined ws (drop 1 vs))
unfolding pack
pack-first s p w ws [] hs l = absurd (omega arith)
pack-first s p w ws (v ∷ vs) hs l =
    pack_joined (put s p w v) (p + w) ws vs (bytes-put s p w v hs) (omega arith)
    ∙ sym (put_over s p w (total ws) v (joined ws vs) hs (joined_lt ws vs))
