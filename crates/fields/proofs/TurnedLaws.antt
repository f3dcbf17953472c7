-- Laws of bytes that are read and put the other way round, each for any number of bytes.
use mathlib.Core.Path.{◌≡◌, refl, sym, ap, ap₂, ◌∙◌}
use mathlib.Core.List.{List}
use Prim.Native.Nat.{ℕ, zero, suc, ◌+◌, ◌*◌, ◌/◌, ◌%◌, ◌^◌, ◌≤◌, ◌<◌}
use native.Mathlib.Nat.{mul_assoc, mul_comm}
use native.Mathlib.Numerals.{one-add}
use native.Mathlib.Omega.{arith}
use lib.Arith.{digits_lt}
use lib.ListN.{length, get_or, set}
use lib.Pow.{pow-add, high, low, shr-shr}
use Rattle.numbers.specs.Numbers.{number_at, put_number}
use Rattle.numbers.proofs.FieldLaws.{field-zero, put-zero, put-mod, put_byte, length-put, Bytes, bytes-put}
use Rattle.numbers.proofs.NumberLaws.{number_split, number_put, number-byte}
use Rattle.fields.specs.Turned.{turned}

pub turned-suc : (n x : ℕ) → turned (suc n) x ≡ x % 256 * 2 ^ (8 * n) + turned n (x / 256)
unfolding turned
turned-suc n x = refl

-- a byte more
pub more : (n a : ℕ) → a * 2 ^ (8 * suc n) ≡ a * 2 ^ (8 * n) * 256
more n a =
    let e : 8 * suc n ≡ 8 * n + 8 = omega arith in
    ap (λ (k : ℕ). a * 2 ^ k) e ∙ ap (λ (k : ℕ). a * k) (pow-add 2 (8 * n) 8) ∙ sym (mul_assoc a (2 ^ (8 * n)) 256)

pub turned_lt : (n x : ℕ) → turned n x < 2 ^ (8 * n)
unfolding turned
turned_lt zero x = omega arith
turned_lt (suc n) x =
    omega (arith, more n 1, mul_comm 256 (2 ^ (8 * n)), digits_lt {q = x % 256} {m = 256} {r = turned n (x / 256)} {c = 2 ^ (8 * n)} (omega arith) (turned_lt n (x / 256)))

-- ---- twice

-- the highest byte becomes the lowest
turned-high : (n b t : ℕ) → b < 256 → t < 2 ^ (8 * n) → turned (suc n) (b * 2 ^ (8 * n) + t) ≡ turned n t * 256 + b
unfolding turned
turned-high zero b t hb ht = omega arith
turned-high (suc n) b t hb ht =
    let x : ℕ = b * 2 ^ (8 * suc n) + t in
    let lowest : x % 256 ≡ t % 256 = omega (arith, more n b) in
    let up : x / 256 ≡ b * 2 ^ (8 * n) + t / 256 = omega (arith, more n b) in
    let rest : turned (suc n) (b * 2 ^ (8 * n) + t / 256) ≡ turned n (t / 256) * 256 + b = turned-high n b (t / 256) hb (omega (arith, more n 1)) in
    turned-suc (suc n) x
    ∙ ap₂ (λ (u v : ℕ). u * 2 ^ (8 * suc n) + turned (suc n) v) lowest up
    ∙ ap (λ (w : ℕ). t % 256 * 2 ^ (8 * suc n) + w) rest
    ∙ omega (arith, more n (t % 256))

pub turned-turned : (n x : ℕ) → x < 2 ^ (8 * n) → turned n (turned n x) ≡ x
unfolding turned
turned-turned zero x h = omega arith
turned-turned (suc n) x h =
    turned-high n (x % 256) (turned n (x / 256)) (omega arith) (turned_lt n (x / 256))
    ∙ ap (λ (w : ℕ). w * 256 + x % 256) (turned-turned n (x / 256) (omega (arith, more n 1)))
    ∙ omega arith

-- ---- read

-- the bytes from i + j on as a number, the first of them the lowest
unfoldable pub little : List ℕ → ℕ → ℕ → ℕ → ℕ
little s i j zero = 0
little s i j (suc n) = get_or s (i + j) 0 + little s i (suc j) n * 256

pub turned_little : (s : List ℕ) (i j n : ℕ) → Bytes s → turned n (little s i j n) ≡ number_at n s (i + j)
unfolding turned little
turned_little s i j zero hs = sym (field-zero s (8 * (i + j)))
turned_little s i j (suc n) hs =
    let b : ℕ = get_or s (i + j) 0 in
    let r : ℕ = little s i (suc j) n in
    let hb : b < 256 = hs (i + j) in
    let lowest : (b + r * 256) % 256 ≡ b = omega arith in
    let up : (b + r * 256) / 256 ≡ r = omega arith in
    let k : i + suc j ≡ i + j + 1 = omega arith in
    ap₂ (λ (u v : ℕ). u * 2 ^ (8 * n) + turned n v) lowest up
    ∙ ap₂ (λ (u v : ℕ). u * 2 ^ (8 * n) + v) (sym (number-byte s (i + j) hb)) (turned_little s i (suc j) n hs ∙ ap (number_at n s) k)
    ∙ sym (number_split s (i + j) 1 n)
    ∙ ap (λ (m : ℕ). number_at m s (i + j)) (one-add n)

-- ---- put

-- the n bytes of x from its byte j on, counted from the lowest, stored from i + j on, the last of them first
unfoldable pub stores : List ℕ → ℕ → ℕ → ℕ → ℕ → List ℕ
stores s i x j zero = s
stores s i x j (suc n) = set (stores s i x (suc j) n) (i + j) (x / 2 ^ (8 * j) % 256)

pub stores_put : (s : List ℕ) (i x j n : ℕ) → Bytes s → i + j + n ≤ length s → stores s i x j n ≡ put_number n s (i + j) (turned n (x / 2 ^ (8 * j)))
unfolding stores turned
stores_put s i x j zero hs h = sym (put-zero s (8 * (i + j)) 0)
stores_put s i x j (suc n) hs h =
    let k : ℕ = i + j in
    let y : ℕ = x / 2 ^ (8 * j) in
    let b : ℕ = y % 256 in
    let t : ℕ = turned n (y / 256) in
    let v : ℕ = b * 2 ^ (8 * n) + t in
    let l : List ℕ = put_number n s (k + 1) t in
    let next : i + suc j ≡ k + 1 = omega arith in
    let e : 8 * suc j ≡ 8 * j + 8 = omega arith in
    let down : x / 2 ^ (8 * suc j) ≡ y / 256 = ap (λ (m : ℕ). x / 2 ^ m) e ∙ sym (shr-shr x (8 * j) 8) in
    let rest : stores s i x (suc j) n ≡ l =
    stores_put s i x (suc j) n hs (omega arith) ∙ ap₂ (λ (m z : ℕ). put_number n s m (turned n z)) next down in
    let same : put_number n s (k + 1) v ≡ l =
    put-mod s (8 * (k + 1)) (8 * n) v ∙ ap (put_number n s (k + 1)) (low b (8 * n) (turned_lt n (y / 256))) in
    let byte : b % 256 ≡ b = omega arith in
    let long : length l ≡ length s = length-put s (8 * (k + 1)) (8 * n) t in
    ap (λ (m : List ℕ). set m k b) rest
    ∙ ap (set l k) (sym byte)
    ∙ sym (put_byte l k b (bytes-put s (8 * (k + 1)) (8 * n) t hs) (omega arith))
    ∙ ap₂ (λ (m : List ℕ) (z : ℕ). put_number 1 m k z) (sym same) (sym (high b (8 * n) (turned_lt n (y / 256))))
    ∙ sym (number_put s k 1 n v)
    ∙ ap (λ (m : ℕ). put_number m s k v) (one-add n)
