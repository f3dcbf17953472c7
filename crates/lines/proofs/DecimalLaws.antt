-- Laws of decimal text: it stands for its number, has no zero in front, and is of digits alone.
use mathlib.Core.Path.{◌≡◌, refl, sym, ap, ◌∙◌}
use mathlib.Core.List.{List, [], ◌∷◌, ◌++◌}
use Prim.Native.Nat.{ℕ, zero, suc, ◌+◌, ◌-◌, ◌*◌, ◌/◌, ◌%◌, ◌^◌, ◌≤◌, ◌<◌}
use native.Mathlib.Decide.{dec_lt}
use native.Mathlib.Nat.{pow-suc}
use native.Mathlib.Omega.{arith}
use borrow.Author.Tests.{lt-ltb, le-ltb}
use lib.ListN.{length, get_or, length-append, get_or-append}
use lib.Seq.{get_or-append_seam}
use Rattle.lines.specs.Decimal.{digit_byte, digits_in, decimal, read_on, value_of}

-- the last digit of n
abbrev last : ℕ → List ℕ
last n = digit_byte (n % 10) ∷ []

digits-one : (k n : ℕ) → n < 10 → digits_in (suc k) n ≡ last n
unfolding digits_in
digits-one k n h = rw (lt-ltb n 10 h)

digits_more : (k n : ℕ) → 10 ≤ n → digits_in (suc k) n ≡ digits_in k (n / 10) ++ last n
unfolding digits_in
digits_more k n h = rw (le-ltb n 10 h)

-- ---- what holds of one digit, and of digits with the last behind them, holds of every number's text

module _ (P : ℕ → List ℕ → Type 0) (one : (n : ℕ) → n < 10 → P n (last n))
    (more : (n : ℕ) (s : List ℕ) → 10 ≤ n → P (n / 10) s → P n (s ++ last n)) where
  digits-all : (k n : ℕ) → n < k → P n (digits_in k n)
  digits-all zero n h = absurd (omega arith)
  digits-all (suc k) n h = of (dec_lt n 10) (λ m. digits-all k (n / 10) (omega arith))
    where
      of : Dec (n < 10) → (10 ≤ n → P (n / 10) (digits_in k (n / 10))) → P n (digits_in (suc k) n)
      of (yes l) above = rw (digits-one k n l) (one n l)
      of (no l) above = rw (digits_more k n (omega arith)) (more n (digits_in k (n / 10)) (omega arith) (above (omega arith)))

  decimal-all : (n : ℕ) → P n (decimal n)
  unfolding decimal
  decimal-all n = digits-all (suc n) n (omega arith)

-- ---- a number's text is one digit, or the text of the number above its last digit and that digit

-- any number of digits that is enough gives the same text
enough : (n k : ℕ) → n < k → digits_in k n ≡ decimal n
enough = decimal-all (λ n s. (k : ℕ) → n < k → digits_in k n ≡ s) one more
  where
    one : (n : ℕ) → n < 10 → (k : ℕ) → n < k → digits_in k n ≡ last n
    one n l zero h = absurd (omega arith)
    one n l (suc k) h = digits-one k n l

    more : (n : ℕ) (s : List ℕ) → 10 ≤ n → ((k : ℕ) → n / 10 < k → digits_in k (n / 10) ≡ s) → (k : ℕ) → n < k → digits_in k n ≡ s ++ last n
    more n s l above zero h = absurd (omega arith)
    more n s l above (suc k) h = digits_more k n l ∙ ap (λ (t : List ℕ). t ++ last n) (above k (omega arith))

pub decimal-one : (n : ℕ) → n < 10 → decimal n ≡ digit_byte (n % 10) ∷ []
unfolding decimal
decimal-one n h = digits-one n n h

pub decimal-more : (n : ℕ) → 10 ≤ n → decimal n ≡ decimal (n / 10) ++ (digit_byte (n % 10) ∷ [])
decimal-more n h =
    sym (enough n (suc n) (omega arith)) ∙ digits_more n n h ∙ ap (λ (t : List ℕ). t ++ last n) (enough (n / 10) n (omega arith))

-- ---- what it stands for

read-append : (v : ℕ) (s t : List ℕ) → read_on v (s ++ t) ≡ read_on (read_on v s) t
unfolding read_on
read-append v [] t = refl
read-append v (b ∷ s) t = read-append (v * 10 + (b - 48)) s t

-- the text stands for the number
pub decimal_value : (n : ℕ) → value_of (decimal n) ≡ n
unfolding read_on
decimal_value =
    decimal-all (λ n s. read_on 0 s ≡ n) (λ n l. omega arith)
    (λ n s l above. rw (read-append, above) (omega arith))

-- so numbers with the same text are the same
pub decimal-same : (m n : ℕ) → decimal m ≡ decimal n → m ≡ n
decimal-same m n e = sym (decimal_value m) ∙ ap value_of e ∙ decimal_value n

-- ---- how many digits

-- a number below 10 to the power k + 1 has at most k + 1 digits
pub decimal-length : (n k : ℕ) → n < 10 ^ suc k → length (decimal n) ≤ suc k
decimal-length = decimal-all (λ n s. (k : ℕ) → n < 10 ^ suc k → length s ≤ suc k) (λ n l k h. omega arith) more
  where
    more : (n : ℕ) (s : List ℕ) → 10 ≤ n → ((k : ℕ) → n / 10 < 10 ^ suc k → length s ≤ suc k) → (k : ℕ) → n < 10 ^ suc k
        → length (s ++ last n) ≤ suc k
    more n s l above zero h = omega arith
    more n s l above (suc k) h =
        let m : n < 10 ^ suc k * 10 = rw pow-suc at h in
        rw length-append (omega (arith, above k (omega arith)))

-- ---- no zero in front

-- there is a digit, and the first one of a number above 0 is no zero
pub decimal-first : (n : ℕ) → (0 < length (decimal n)) × (0 < n → digit_byte 0 < get_or (decimal n) 0 0)
decimal-first =
    decimal-all (λ n s. (0 < length s) × (0 < n → digit_byte 0 < get_or s 0 0)) (λ n l. (omega arith, λ h. omega arith))
    (λ n s l above.
    (rw length-append (omega arith), λ h. rw (get_or-append s (last n) 0 0 above.0) (above.1 (omega arith))))

-- ---- digits alone

-- a byte of one of the ten digits
abbrev pub IsDigit : ℕ → Type 0
IsDigit b = (digit_byte 0 ≤ b) × (b ≤ digit_byte 9)

-- every byte of a text is one of a digit
abbrev pub OfDigits : List ℕ → Type 0
OfDigits s = (i : ℕ) → i < length s → IsDigit (get_or s i 0)

digit_behind : (n : ℕ) (s : List ℕ) → OfDigits s → OfDigits (s ++ last n)
digit_behind n s front i h = of (dec_lt i (length s))
  where
    of : Dec (i < length s) → IsDigit (get_or (s ++ last n) i 0)
    of (yes l) = rw (get_or-append s (last n) 0 i l) (front i l)
    of (no l) =
        let e : i ≡ length s = omega (arith, length-append s (last n)) in
        rw (e, get_or-append_seam s (digit_byte (n % 10)) [] 0) (omega arith, omega arith)

pub decimal-digits : (n : ℕ) → OfDigits (decimal n)
decimal-digits =
    decimal-all (λ n s. OfDigits s) (λ n l. digit_behind n [] (λ i h. omega arith)) (λ n s l above. digit_behind n s above)
