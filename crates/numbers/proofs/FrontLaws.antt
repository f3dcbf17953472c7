-- The front of some bytes: what stands in it reads there as it does in all of them.
use mathlib.Core.Logic.{◌⊎◌, inl, inr}
use mathlib.Core.Path.{◌≡◌, sym, ◌∙◌}
use mathlib.Core.List.{List}
use Prim.Native.Nat.{ℕ, ◌+◌, ◌*◌, ◌<◌, ◌≤◌}
use native.Mathlib.Omega.{arith}
use borrow.Author.Tests.{le-leb, lt-leb}
use lib.Dec.{leb}
use lib.ListN.{length, take, drop, length-take, length-drop}
use lib.Seq.{get_or-take, get_or-drop, ext_get_or}
use Rattle.numbers.specs.Numbers.{number_at}
use Rattle.numbers.proofs.FieldLaws.{field-front}
use Rattle.numbers.proofs.Logic.{lt_or_le}

pub number-front : (n : ℕ) (s : List ℕ) (i m : ℕ) → i + n ≤ m → number_at n (take m s) i ≡ number_at n s i
number-front n s i m h = field-front s (8 * i) (8 * n) m (omega arith)

pub part-front : (s : List ℕ) (a n m : ℕ) → a + n ≤ m → take n (drop a (take m s)) ≡ take n (drop a s)
part-front s a n m h =
    ext_get_or 0 (take n (drop a (take m s))) (take n (drop a s)) (simp (length-take, length-drop) (omega arith))
    (λ i l. let k : i < n = omega (arith, length-take n (drop a (take m s))) in
    get_or-take n (drop a (take m s)) i 0 k ∙ get_or-drop a (take m s) i 0 ∙ get_or-take m s (a + i) 0 (omega arith)
    ∙ sym (get_or-take n (drop a s) i 0 k ∙ get_or-drop a s i 0))

pub enough-front : (n m : ℕ) (s : List ℕ) → n ≤ m → leb n (length (take m s)) ≡ leb n (length s)
enough-front n m s h = of (lt_or_le (length s) n)
  where
    of : (length s < n) ⊎ (n ≤ length s) → leb n (length (take m s)) ≡ leb n (length s)
    of (inl l) = lt-leb n (length (take m s)) (omega (arith, length-take m s)) ∙ sym (lt-leb n (length s) l)
    of (inr l) = le-leb n (length (take m s)) (omega (arith, length-take m s)) ∙ sym (le-leb n (length s) l)
