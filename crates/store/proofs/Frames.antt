-- What a change of some bytes leaves as it was: the bytes outside, and so each number, row and stretch that has none of the changed ones.
use Prim.Native.Nat.{ℕ, ◌+◌, ◌*◌, ◌≤◌, ◌<◌}
use mathlib.Core.List.{List}
use mathlib.Core.Logic.{⊎_elim, ◌⊎◌, inl, inr}
use mathlib.Core.Path.{◌≡◌, refl, ◌∙◌}
use native.Mathlib.Omega.{arith}
use lib.ListN.{length, get_or, take, drop}
use Rattle.numbers.specs.Numbers.{number_at, put_number}
use Rattle.numbers.proofs.FieldLaws.{Bytes, length-put, bytes-put, bit_put_out, same_byte}
use Rattle.rows.specs.Row.{row_bytes, row_at, put_row}
use Rattle.rows.proofs.Bytewise.{field-same, bit_of_byte}
use Rattle.rows.proofs.RowLaws.{row_same, length-put_row, bytes-put_row, byte-apart}
use Rattle.trains.specs.declared.record.Train.{Train}
use Rattle.store.specs.Lent.{Lent}
use Rattle.store.proofs.Stretches.{Outside, stretch-same}

-- m bytes at i and n bytes at `at` have none in common
abbrev pub Clear : ℕ → ℕ → ℕ → ℕ → Type 0
Clear i m at n = (i + m ≤ at) ⊎ (at + n ≤ i)

-- t is s with no byte changed but, perhaps, some of the n at `at`
pub record Changes (s t : List ℕ) (at n : ℕ) : Type 0 where
  pub size : length t ≡ length s
  pub bytes : Bytes t
  pub out : (k : ℕ) → Outside at n k → get_or t k 0 ≡ get_or s k 0

-- nothing is changed
pub unchanged : {s : List ℕ} {at n : ℕ} → Bytes s → Changes s s at n
unchanged h = record { size = refl; bytes = h; out = λ k o. refl }

-- the same, of a longer stretch
pub widen : {s t : List ℕ} {at n : ℕ} → Changes s t at n → (lo m : ℕ) → lo ≤ at → at + n ≤ lo + m → Changes s t lo m
widen {s} {t} {at} {n} r lo m a b = record {
  size = r.size;
  bytes = r.bytes;
  out = λ k o. r.out k (⊎_elim (λ x. inl (omega arith)) (λ x. inr (omega arith)) o);
}

-- one change after another
pub next : {s t u : List ℕ} {at n : ℕ} → Changes s t at n → Changes t u at n → Changes s u at n
next r q = record { size = q.size ∙ r.size; bytes = q.bytes; out = λ k o. q.out k o ∙ r.out k o }

-- ---- what stays

module _ {s t : List ℕ} {at n : ℕ} (r : Changes s t at n) where
  pub bytes_stay : (i m : ℕ) → Clear i m at n → (k : ℕ) → k < m → get_or t (i + k) 0 ≡ get_or s (i + k) 0
  bytes_stay i m h k l = r.out (i + k) (⊎_elim (λ x. inl (omega arith)) (λ x. inr (omega arith)) h)

  pub number-stays : (m i : ℕ) → Clear i m at n → number_at m t i ≡ number_at m s i
  number-stays m i h = field-same t s (8 * i) (8 * i) (8 * m) (λ q l. bit_of_byte t s i i m (bytes_stay i m h) q l)

  pub row_stays : (i : ℕ) → Clear i row_bytes at n → row_at t i ≡ row_at s i
  row_stays i h = row_same t s i i (bytes_stay i row_bytes h)

  pub stretch-stays : (i m : ℕ) → i + m ≤ length s → Clear i m at n → take m (drop i t) ≡ take m (drop i s)
  stretch-stays i m f h = stretch-same t s i i m (omega (arith, r.size)) f (bytes_stay i m h)

-- ---- the changes there are

pub number_changes : (m : ℕ) (s : List ℕ) (i x : ℕ) → Bytes s → Changes s (put_number m s i x) i m
number_changes m s i x h = record {
  size = length-put s (8 * i) (8 * m) x;
  bytes = bytes-put s (8 * i) (8 * m) x h;
  out =
      λ k o. same_byte (put_number m s i x) s k (bytes-put s (8 * i) (8 * m) x h) h
      (λ q l u. bit_put_out s (8 * i) (8 * m) x q (⊎_elim (λ a. inl (omega arith)) (λ a. inr (omega arith)) o));
}

pub row_changes : (s : List ℕ) (at : ℕ) (t : Train) → Bytes s → Changes s (put_row s at t) at row_bytes
row_changes s at t h = record {
  size = length-put_row s at t;
  bytes = bytes-put_row s at t h;
  out = λ k o. byte-apart s at t k h o;
}

-- ---- sessions

pub lent_after : {s t : List ℕ} {at n : ℕ} → Lent s → Changes s t at n → Lent t
lent_after r c = record { size = c.size ∙ r.size; bytes = c.bytes }
