-- A field within a wider field, each law once for every place and width: its value is digits of the wider one's, and putting it is putting the wider
-- one with those digits made others. And over any widths: pieces side by side are the digits of the field that they make up.
use mathlib.Core.Path.{◌≡◌, refl, sym, ap, ap₂, ◌∙◌}
use mathlib.Core.List.{List, [], ◌∷◌}
use mathlib.Core.Logic.{inl}
use Prim.Native.Nat.{ℕ, ◌+◌, ◌-◌, ◌*◌, ◌/◌, ◌%◌, ◌^◌, ◌≤◌, ◌<◌}
use native.Mathlib.Nat.{add-zero, zero-add, add_assoc, add-mul, mod-lt}
use native.Mathlib.Omega.{arith}
use lib.Arith.{digits_lt as below}
use lib.Pow.{pow_pos, pow-add, high, low, shr_lt, split}
use Rattle.numbers.specs.Fields.{field, put}
use Rattle.numbers.specs.Pieces.{total, unpack}
use Rattle.numbers.proofs.FieldLaws.{field-add, field_lt, field_put_out, put-add, put-mod, put-field, Bytes, bytes-put}

-- the field k bits behind the start of a wider one, with m bits of that behind it
pub field_within : (s : List ℕ) (p k w m : ℕ) → field s (p + k) w ≡ field s p (k + w + m) / 2 ^ m % 2 ^ w
field_within s p k w m =
    sym
    (ap (λ (x : ℕ). x / 2 ^ m % 2 ^ w) (field-add s p (k + w) m)
    ∙ ap (λ (x : ℕ). x % 2 ^ w) (high (field s p (k + w)) m (field_lt s (p + (k + w)) m) ∙ field-add s p k w)
    ∙ low (field s p k) w (field_lt s (p + k) w))

-- the number x with the w digits above its m lowest made those of v
unfoldable pub with_digits : ℕ → ℕ → ℕ → ℕ → ℕ
with_digits x m w v = x - x / 2 ^ m % 2 ^ w * 2 ^ m + v % 2 ^ w * 2 ^ m

module _ (x m w : ℕ) where
  -- the digits above, the w digits, and those below
  parts : x / 2 ^ m / 2 ^ w * 2 ^ w * 2 ^ m + x / 2 ^ m % 2 ^ w * 2 ^ m + x % 2 ^ m ≡ x
  parts =
      ap (λ (n : ℕ). n + x % 2 ^ m) (sym (add-mul (x / 2 ^ m / 2 ^ w * 2 ^ w) (x / 2 ^ m % 2 ^ w) (2 ^ m)) ∙ ap (λ (n : ℕ). n * 2 ^ m) (split (x / 2 ^ m) w))
      ∙ split x m

  pub digits_le : x / 2 ^ m % 2 ^ w * 2 ^ m ≤ x
  digits_le = omega (arith, parts)

  digits_parts : (v : ℕ) → with_digits x m w v ≡ (x / 2 ^ m / 2 ^ w * 2 ^ w + v % 2 ^ w) * 2 ^ m + x % 2 ^ m
  unfolding with_digits
  digits_parts v = rw add-mul (omega (arith, parts))

  -- it has no more digits than before
  pub digits_lt : (k v : ℕ) → x < 2 ^ (k + w + m) → with_digits x m w v < 2 ^ (k + w + m)
  digits_lt k v h =
      rw (digits_parts v, pow-add 2 (k + w) m, pow-add 2 k w)
      (below (below (shr_lt k w (shr_lt (k + w) m h)) (mod-lt v (pow_pos w))) (mod-lt x (pow_pos m)))

pub put_within : (s : List ℕ) (p k w m v : ℕ) → Bytes s → put s (p + k) w v ≡ put s p (k + w + m) (with_digits (field s p (k + w + m)) m w v)
put_within s p k w m v hs =
    sym
    (ap (put s p (k + w + m)) whole
    ∙ put-add s p (k + w) m x
    ∙ ap₂ (λ (l : List ℕ) (y : ℕ). put l p (k + w) y) behind (high y m hc)
    ∙ put-add s p k w y
    ∙ ap₂ (λ (l : List ℕ) (z : ℕ). put l p k z) here (high (field s p k) w hv ∙ sym (field_put_out s (p + k) w v p k (inl (omega arith))))
    ∙ put-field (put s (p + k) w v) p k (bytes-put s (p + k) w v hs))
  where
    -- the bits behind the field
    rest : ℕ
    rest = field s (p + (k + w)) m

    hc : rest < 2 ^ m
    hc = field_lt s (p + (k + w)) m

    hv : v % 2 ^ w < 2 ^ w
    hv = mod-lt v (pow_pos w)

    y : ℕ
    y = field s p k * 2 ^ w + v % 2 ^ w

    x : ℕ
    x = y * 2 ^ m + rest

    before : field s p (k + w + m) / 2 ^ m / 2 ^ w ≡ field s p k
    before =
        ap (λ (n : ℕ). n / 2 ^ w) (ap (λ (n : ℕ). n / 2 ^ m) (field-add s p (k + w) m) ∙ high (field s p (k + w)) m hc ∙ field-add s p k w)
        ∙ high (field s p k) w (field_lt s (p + k) w)

    whole : with_digits (field s p (k + w + m)) m w v ≡ x
    whole =
        digits_parts (field s p (k + w + m)) m w v
        ∙ ap₂ (λ (a b : ℕ). (a * 2 ^ w + v % 2 ^ w) * 2 ^ m + b) before (ap (λ (n : ℕ). n % 2 ^ m) (field-add s p (k + w) m) ∙ low (field s p (k + w)) m hc)

    behind : put s (p + (k + w)) m x ≡ s
    behind = put-mod s (p + (k + w)) m x ∙ ap (put s (p + (k + w)) m) (low y m hc) ∙ put-field s (p + (k + w)) m hs

    here : put s (p + k) w y ≡ put s (p + k) w v
    here = put-mod s (p + k) w y ∙ ap (put s (p + k) w) (low (field s p k) w hv) ∙ sym (put-mod s (p + k) w v)

-- ---- pieces

-- the digits of v in pieces, the last piece the lowest
unfoldable pub cut : ℕ → List ℕ → List ℕ
cut v [] = []
cut v (w ∷ ws) = v / 2 ^ total ws % 2 ^ w ∷ cut v ws

-- pieces k bits behind the start of a field that ends with them
unpack_within : (s : List ℕ) (p k : ℕ) (ws : List ℕ) → unpack s (p + k) ws ≡ cut (field s p (k + total ws)) ws
unfolding unpack cut total
unpack_within s p k [] = refl
unpack_within s p k (w ∷ ws) =
    ap₂ (λ (x : ℕ) (l : List ℕ). x ∷ l)
    (field_within s p k w (total ws))
    (ap (λ (q : ℕ). unpack s q ws) (add_assoc p k w) ∙ unpack_within s p (k + w) ws)
    ∙ ap (λ (n : ℕ). field s p n / 2 ^ total ws % 2 ^ w ∷ cut (field s p n) ws) (add_assoc k w (total ws))

pub unpack_cut : (s : List ℕ) (p : ℕ) (ws : List ℕ) → unpack s p ws ≡ cut (field s p (total ws)) ws
unpack_cut s p ws =
    ap (λ (q : ℕ). unpack s q ws) (sym (add-zero p)) ∙ unpack_within s p 0 ws ∙ ap (λ (t : ℕ). cut (field s p t) ws) (zero-add (total ws))
