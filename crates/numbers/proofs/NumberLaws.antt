-- Laws of byte-aligned numbers, each for any number of bytes.
use mathlib.Core.Path.{◌≡◌, ap, ap₂, ◌∙◌}
use mathlib.Core.List.{List}
use Prim.Native.Nat.{ℕ, ◌+◌, ◌*◌, ◌/◌, ◌^◌, ◌≤◌, ◌<◌}
use native.Mathlib.Omega.{arith}
use lib.ListN.{length, get_or}
use Rattle.numbers.specs.Fields.{field, put}
use Rattle.numbers.specs.Numbers.{number_at, put_number}
use Rattle.numbers.proofs.FieldLaws.{field-add, field_lt, field-byte, field_past, put-add, put_past, Bytes}

-- a number is its first bytes and the number behind them
pub number_split : (s : List ℕ) (i a b : ℕ) → number_at (a + b) s i ≡ number_at a s i * 2 ^ (8 * b) + number_at b s (i + a)
number_split s i a b =
    let e : 8 * (a + b) ≡ 8 * a + 8 * b = omega arith in
    let f : 8 * i + 8 * a ≡ 8 * (i + a) = omega arith in
    ap (field s (8 * i)) e ∙ field-add s (8 * i) (8 * a) (8 * b) ∙ ap (λ (p : ℕ). number_at a s i * 2 ^ (8 * b) + field s p (8 * b)) f

-- and is put as the number behind and the first bytes
pub number_put : (s : List ℕ) (i a b x : ℕ) → put_number (a + b) s i x ≡ put_number a (put_number b s (i + a) x) i (x / 2 ^ (8 * b))
number_put s i a b x =
    let e : 8 * (a + b) ≡ 8 * a + 8 * b = omega arith in
    let f : 8 * i + 8 * a ≡ 8 * (i + a) = omega arith in
    ap (λ (w : ℕ). put s (8 * i) w x) e ∙ put-add s (8 * i) (8 * a) (8 * b) x
    ∙ ap (λ (p : ℕ). put_number a (put s p (8 * b) x) i (x / 2 ^ (8 * b))) f

-- a number of one byte is that byte
pub number-byte : (s : List ℕ) (i : ℕ) → get_or s i 0 < 256 → number_at 1 s i ≡ get_or s i 0
number-byte s i h = field-byte s i h

-- and one of two bytes is the first times 256 and the second
pub number_pair : (s : List ℕ) (i : ℕ) → Bytes s → number_at 2 s i ≡ get_or s i 0 * 256 + get_or s (i + 1) 0
number_pair s i h =
    number_split s i 1 1 ∙ ap₂ (λ (x y : ℕ). x * 256 + y) (number-byte s i (h i)) (number-byte s (i + 1) (h (i + 1)))

-- past the end a number reads as 0, and putting one there does nothing
pub number_past : (n : ℕ) (s : List ℕ) (i : ℕ) → length s ≤ i → number_at n s i ≡ 0
number_past n s i h = field_past s (8 * i) (8 * n) (omega arith)

pub number_put_past : (n : ℕ) (s : List ℕ) (i x : ℕ) → length s ≤ i → put_number n s i x ≡ s
number_put_past n s i x h = put_past s (8 * i) (8 * n) x (omega arith)

-- a number of n bytes is below 2 to the power 8 n
pub number_lt : (n : ℕ) (s : List ℕ) (i : ℕ) → number_at n s i < 2 ^ (8 * n)
number_lt n s i = field_lt s (8 * i) (8 * n)
