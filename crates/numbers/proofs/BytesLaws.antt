-- A number as its bytes, high byte first, as std reads and writes them.
use mathlib.Core.Path.{◌≡◌, refl, sym, ap, ◌∙◌}
use mathlib.Core.List.{List}
use Prim.Native.Nat.{ℕ, zero, suc, ◌+◌, ◌*◌, ◌/◌, ◌%◌, ◌^◌, ◌<◌}
use native.Mathlib.Decide.{dec_lt}
use native.Mathlib.Nat.{div-one, pow-suc}
use native.Mathlib.Numerals.{add-one, one-add}
use native.Mathlib.Omega.{arith}
use lib.ListN.{length, get_or, set}
use lib.Pow.{pow-add, high}
use lib.Seq.{sets, set_out}
use Rattle.std.specs.Int.{w16, w32, w64, byte_at, bytes_high_first, from_be_bytes}
use Rattle.numbers.specs.Numbers.{number_at, put_number}
use Rattle.numbers.proofs.FieldLaws.{field-zero, put-zero, put_byte, Bytes, bytes-put}
use Rattle.numbers.proofs.JoinedLaws.{put-apart}
use Rattle.numbers.proofs.NumberLaws.{number_split, number-byte, number_lt, number_put, number_put_past}

-- ---- read

-- these are the n bytes from byte i of s on
abbrev pub BytesFrom : List ℕ → ℕ → ℕ → List ℕ → Type 0
BytesFrom s i n bs = (k : ℕ) → k < n → get_or bs k 0 ≡ get_or s (i + k) 0

-- a number of one byte more
number_more : (s : List ℕ) (i n : ℕ) → Bytes s → number_at (suc n) s i ≡ number_at n s i * 256 + get_or s (i + n) 0
number_more s i n h =
    ap (λ (m : ℕ). number_at m s i) (sym (add-one n)) ∙ number_split s i n 1 ∙ ap (λ (x : ℕ). number_at n s i * 256 + x) (number-byte s (i + n) (h (i + n)))

module _ (s bs : List ℕ) (i : ℕ) (h : Bytes s) where
  pub number_of_1 : BytesFrom s i 1 bs → get_or bs 0 0 ≡ number_at 1 s i
  number_of_1 e = omega (arith, field-zero s (8 * i), number_more s i 0 h, e 0 (omega arith))

  pub number_of_2 : BytesFrom s i 2 bs → from_be_bytes w16 bs ≡ number_at 2 s i
  number_of_2 e = omega (arith, number_of_1 (λ k l. e k (omega arith)), number_more s i 1 h, e 1 (omega arith))

  pub number_of_4 : BytesFrom s i 4 bs → from_be_bytes w32 bs ≡ number_at 4 s i
  number_of_4 e =
      omega (arith, number_of_2 (λ k l. e k (omega arith)), number_more s i 2 h, e 2 (omega arith), number_more s i 3 h, e 3 (omega arith))

  pub number_of_8 : BytesFrom s i 8 bs → from_be_bytes w64 bs ≡ number_at 8 s i
  number_of_8 e =
      omega (arith, number_of_4 (λ k l. e k (omega arith)), number_more s i 4 h, e 4 (omega arith), number_more s i 5 h, e 5 (omega arith), number_more s i 6 h, e 6 (omega arith), number_more s i 7 h, e 7 (omega arith))

-- the first of its bytes are what stands above the digits of the others
pub number_high : (s : List ℕ) (i a b : ℕ) → number_at (a + b) s i / 2 ^ (8 * b) ≡ number_at a s i
number_high s i a b = ap (λ (n : ℕ). n / 2 ^ (8 * b)) (number_split s i a b) ∙ high (number_at a s i) (8 * b) (number_lt b s (i + a))

-- ---- put

one_put : (s : List ℕ) (i x : ℕ) → Bytes s → set s i (x % 256) ≡ put_number 1 s i x
one_put s i x h = of (dec_lt i (length s))
  where
    of : Dec (i < length s) → set s i (x % 256) ≡ put_number 1 s i x
    of (yes l) = sym (put_byte s i x h l)
    of (no l) = set_out s i (x % 256) (omega arith) ∙ sym (number_put_past 1 s i x (omega arith))

worth : (n : ℕ) → 256 ^ n ≡ 2 ^ (8 * n)
worth zero = refl
worth (suc n) =
    let e : 8 * n + 8 ≡ 8 * suc n = omega arith in
    pow-suc 256 n ∙ ap (λ (p : ℕ). p * 256) (worth n) ∙ sym (pow-add 2 (8 * n) 8) ∙ ap (λ (k : ℕ). 2 ^ k) e

byte-is : (n x : ℕ) → byte_at n x ≡ x / 2 ^ (8 * n) % 256
byte-is zero x = ap (λ (y : ℕ). y % 256) (sym (div-one x))
byte-is (suc n) x = ap (λ (p : ℕ). x / p % 256) (worth (suc n))

-- its bytes stored one behind the other
pub stored : (s : List ℕ) (i n x : ℕ) → Bytes s → sets s i (bytes_high_first n x) ≡ put_number n s i x
stored s i zero x h = sym (put-zero s (8 * i) x)
stored s i (suc n) x h =
    let y : ℕ = x / 2 ^ (8 * n) in
    let t : List ℕ = put_number 1 s i y in
    ap (λ (l : List ℕ). sets l (suc i) (bytes_high_first n x)) (ap (set s i) (byte-is n x) ∙ one_put s i y h)
    ∙ stored t (suc i) n x (bytes-put s (8 * i) 8 y h)
    ∙ put-apart s (8 * i) 8 y (8 * suc i) (8 * n) x h (omega arith)
    ∙ ap (λ (j : ℕ). put_number 1 (put_number n s j x) i y) (sym (add-one i))
    ∙ sym (number_put s i 1 n x)
    ∙ ap (λ (m : ℕ). put_number m s i x) (one-add n)
