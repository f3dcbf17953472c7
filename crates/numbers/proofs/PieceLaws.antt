-- Laws of pieces, each for any list of widths.
use mathlib.Core.Path.{◌≡◌, refl, sym, ap, ap₂, ◌∙◌}
use mathlib.Core.List.{List, [], ◌∷◌, ◌++◌}
use mathlib.Core.Logic.{⊎_elim, ◌⊎◌, inl, inr}
use Prim.Native.Nat.{ℕ, zero, suc, ◌+◌, ◌*◌, ◌^◌, ◌≤◌, ◌<◌}
use native.Mathlib.Nat.{add_assoc, add-zero, add-suc, suc-add, mul-zero, mul-suc}
use native.Mathlib.Omega.{arith}
use lib.ListN.{length, take, drop, length-append, length-take, length-drop}
use lib.Seq.{sets, ext_get_or, get_or-take, get_or-drop}
use Rattle.numbers.specs.Fields.{bit_at, field, put}
use Rattle.numbers.proofs.FieldLaws.{length-put, field-front, bit_put_out, field_put, bit_put_field, field_ext, Bytes, bytes-put, same_byte, same_bytes, lt_or_le}
use Rattle.numbers.specs.Pieces.{total, times, unpack, pack}

pub length-unpack : (s : List ℕ) (p : ℕ) (ws : List ℕ) → length (unpack s p ws) ≡ length ws
unfolding unpack
length-unpack s p [] = refl
length-unpack s p (w ∷ ws) = ap suc (length-unpack s (p + w) ws)

pub unpack-nil : (s : List ℕ) (p : ℕ) → unpack s p [] ≡ []
unfolding unpack
unpack-nil s p = refl

pub total-append : (vs ws : List ℕ) → total (vs ++ ws) ≡ total vs + total ws
unfolding total
total-append [] ws = omega arith
total-append (v ∷ vs) ws = omega (arith, total-append vs ws)

-- pieces are the first of them, and those behind
pub unpack-append : (s : List ℕ) (p : ℕ) (vs ws : List ℕ) → unpack s p (vs ++ ws) ≡ unpack s p vs ++ unpack s (p + total vs) ws
unfolding unpack total
unpack-append s p [] ws = rw add-zero
unpack-append s p (v ∷ vs) ws = ap (λ (l : List ℕ). field s p v ∷ l) (rw (unpack-append s (p + v) vs ws, add_assoc))

-- the pieces that lie in the first n bytes of a list are those of these bytes
pub unpack-front : (s : List ℕ) (p : ℕ) (ws : List ℕ) (n : ℕ) → p + total ws ≤ 8 * n → unpack (take n s) p ws ≡ unpack s p ws
unfolding unpack total
unpack-front s p [] n h = refl
unpack-front s p (w ∷ ws) n h =
    ap₂ (λ (x : ℕ) (l : List ℕ). x ∷ l) (field-front s p w n (omega arith)) (unpack-front s (p + w) ws n (omega arith))

pub length-pack : (s : List ℕ) (p : ℕ) (ws vs : List ℕ) → length (pack s p ws vs) ≡ length s
unfolding pack
length-pack s p [] vs = refl
length-pack s p (w ∷ ws) [] = refl
length-pack s p (w ∷ ws) (v ∷ vs) = length-pack (put s p w v) (p + w) ws vs ∙ length-put s p w v

pub bytes-pack : (s : List ℕ) (p : ℕ) (ws vs : List ℕ) → Bytes s → Bytes (pack s p ws vs)
unfolding pack
bytes-pack s p [] vs h = h
bytes-pack s p (w ∷ ws) [] h = h
bytes-pack s p (w ∷ ws) (v ∷ vs) h = bytes-pack (put s p w v) (p + w) ws vs (bytes-put s p w v h)

-- the bits before the pieces and behind them stay
pub bit_pack_out : (s : List ℕ) (p : ℕ) (ws vs : List ℕ) (q : ℕ) → (q < p) ⊎ (p + total ws ≤ q) → bit_at (pack s p ws vs) q ≡ bit_at s q
unfolding pack total
bit_pack_out s p [] vs q h = refl
bit_pack_out s p (w ∷ ws) [] q h = refl
bit_pack_out s p (w ∷ ws) (v ∷ vs) q h =
    bit_pack_out (put s p w v) (p + w) ws vs q (further h) ∙ bit_put_out s p w v q (here h)
  where
    further : (q < p) ⊎ (p + (w + total ws) ≤ q) → (q < p + w) ⊎ (p + w + total ws ≤ q)
    further (inl a) = inl (omega arith)
    further (inr a) = inr (omega arith)

    here : (q < p) ⊎ (p + (w + total ws) ≤ q) → (q < p) ⊎ (p + w ≤ q)
    here (inl a) = inl a
    here (inr a) = inr (omega arith)

-- writing what s has in its pieces makes their bits those of s
pub bit_pack_unpack : (o s : List ℕ) (p : ℕ) (ws : List ℕ) (q : ℕ) → p + total ws ≤ 8 * length o → p ≤ q → q < p + total ws → bit_at (pack o p ws (unpack s p ws)) q ≡ bit_at s q
unfolding pack unpack total
bit_pack_unpack o s p [] q f a b = absurd (omega arith)
bit_pack_unpack o s p (w ∷ ws) q f a b =
    ⊎_elim
    (λ l. bit_pack_out (put o p w (field s p w)) (p + w) ws (unpack s (p + w) ws) q (inl l) ∙ bit_put_field o s p w q (omega arith) a l)
    (λ l. bit_pack_unpack (put o p w (field s p w)) s (p + w) ws q (rw length-put (omega arith)) l (omega arith))
    (lt_or_le q (p + w))

-- each value has no more digits than its width
pub data Fit : List ℕ → List ℕ → Type 0 where
  none : Fit [] []
  one : {w v : ℕ} {ws vs : List ℕ} → v < 2 ^ w → Fit ws vs → Fit (w ∷ ws) (v ∷ vs)

-- what was written is read
pub unpack-pack : (s : List ℕ) (p : ℕ) {ws vs : List ℕ} → Fit ws vs → p + total ws ≤ 8 * length s → unpack (pack s p ws vs) p ws ≡ vs
unfolding pack unpack total
unpack-pack s p none f = refl
unpack-pack s p (one {w} {v} {ws} {vs} h r) f =
    let t : List ℕ = put s p w v in
    let e : field (pack t (p + w) ws vs) p w ≡ v =
    field_ext (pack t (p + w) ws vs) t p w (λ i l. bit_pack_out t (p + w) ws vs (p + i) (inl (omega arith)))
    ∙ field_put s p w v (omega arith) h in
    ap₂ (λ (x : ℕ) (l : List ℕ). x ∷ l) e (unpack-pack t (p + w) r (rw length-put (omega arith)))

-- the round trip: where the pieces take whole bytes, writing what was read from s gives those bytes of s again
pub round_trip : (o s : List ℕ) (n : ℕ) (ws : List ℕ) → Bytes o → Bytes s → total ws ≡ 8 * n → n ≤ length o → n ≤ length s
    → take n (pack o 0 ws (unpack s 0 ws)) ≡ take n s
round_trip o s n ws ho hs e fo fs =
    let t : List ℕ = pack o 0 ws (unpack s 0 ws) in
    let le : length t ≡ length o = length-pack o 0 ws (unpack s 0 ws) in
    ext_get_or 0 (take n t) (take n s)
    (rw (length-take, length-take, le) (omega arith))
    (λ i l.
    let m : i < n = omega (arith, rw length-take at l) in
    get_or-take n t i 0 m
    ∙ same_bytes t s n i (bytes-pack o 0 ws (unpack s 0 ws) ho) hs
    (λ q k. bit_pack_unpack o s 0 ws q (omega arith) (omega arith) (omega arith)) m
    ∙ sym (get_or-take n s i 0 m))

-- the bytes behind pieces that take whole bytes stay
pub pack_past : (o : List ℕ) (n : ℕ) (ws vs : List ℕ) → Bytes o → total ws ≡ 8 * n → drop n (pack o 0 ws vs) ≡ drop n o
pack_past o n ws vs ho e =
    let t : List ℕ = pack o 0 ws vs in
    let le : length t ≡ length o = length-pack o 0 ws vs in
    ext_get_or 0 (drop n t) (drop n o)
    (rw (length-drop, length-drop, le))
    (λ i l.
    get_or-drop n t i 0
    ∙ same_byte t o (n + i) (bytes-pack o 0 ws vs ho) ho (λ q a b. bit_pack_out o 0 ws vs q (inr (omega arith)))
    ∙ sym (get_or-drop n o i 0))

pub pack-none : (o : List ℕ) (p : ℕ) (ws : List ℕ) → pack o p ws [] ≡ o
unfolding pack
pack-none o p [] = refl
pack-none o p (w ∷ ws) = refl

-- ---- stores of a run

pub sets-append : (l : List ℕ) (i : ℕ) (xs ys : List ℕ) → sets l i (xs ++ ys) ≡ sets (sets l i xs) (i + length xs) ys
sets-append l i [] ys = rw add-zero
sets-append l i (x ∷ xs) ys = rw (add-suc, ← suc-add) (sets-append _ (suc i) xs ys)

pub length-times : (n : ℕ) (ws : List ℕ) (k : ℕ) → length ws ≡ k → length (times n ws) ≡ k * n
unfolding times
length-times zero ws k e = sym (mul-zero k)
length-times (suc n) ws k e = rw (length-append, e, mul-suc) (omega (arith, length-times n ws k e))

pub total-times : (n : ℕ) (ws : List ℕ) (t : ℕ) → total ws ≡ t → total (times n ws) ≡ t * n
unfolding times total
total-times zero ws t e = sym (mul-zero t)
total-times (suc n) ws t e = rw (total-append, e, mul-suc) (omega (arith, total-times n ws t e))

pub pack-zero : (o : List ℕ) (p : ℕ) (vs : List ℕ) → pack o p [] vs ≡ o
unfolding pack
pack-zero o p vs = refl

-- the first of the pieces and those behind, with the values of both in one list
pub pack-append : (o : List ℕ) (p : ℕ) (ws bs vs : List ℕ)
    → pack o p (ws ++ bs) vs ≡ pack (pack o p ws vs) (p + total ws) bs (drop (length ws) vs)
unfolding pack total
pack-append o p [] bs vs = ap (λ (q : ℕ). pack o q bs vs) (sym (add-zero p))
pack-append o p (a ∷ ws) bs [] = sym (pack-none o (p + (a + total ws)) bs)
pack-append o p (a ∷ ws) bs (v ∷ vs) =
    pack-append (put o p a v) (p + a) ws bs vs
    ∙ ap (λ (q : ℕ). pack (pack (put o p a v) (p + a) ws vs) q bs (drop (length ws) vs)) (add_assoc p a (total ws))

-- values past the pieces are not looked at
pub pack_extra : (o : List ℕ) (p : ℕ) (ws xs ys : List ℕ) → length ws ≡ length xs → pack o p ws (xs ++ ys) ≡ pack o p ws xs
unfolding pack
pack_extra o p [] xs ys e = refl
pack_extra o p (w ∷ ws) [] ys e = absurd (omega arith)
pack_extra o p (w ∷ ws) (x ∷ xs) ys e = pack_extra (put o p w x) (p + w) ws xs ys (omega arith)
