-- No kind of record has a payload longer than that of the flags.
use mathlib.Core.Bool.{Bool, true, false, cond, ◌&&◌}
use mathlib.Core.Path.{◌≡◌, refl}
use mathlib.Core.List.{List, [], ◌∷◌}
use Prim.Native.Nat.{ℕ, ◌≤◌}
use native.Mathlib.Omega.{arith}
use borrow.Author.Tests.{leb-true}
use lib.Dec.{eqb, leb}
use Rattle.numbers.proofs.Logic.{both}
use Rattle.records.specs.Kinds.{Kind, kinds, among, payload_length}

-- no kind of a list takes more than m bytes
abbrev take_most : ℕ → List Kind → Bool
take_most m [] = true
take_most m (k ∷ ks) = leb k.takes m && take_most m ks

either : (b : Bool) (k l : Kind) (m : ℕ) → k.takes ≤ m → l.takes ≤ m → (cond b k l).takes ≤ m
either true k l m p q = p
either false k l m p q = q

among_most : (ks : List Kind) (n m : ℕ) → take_most m ks ≡ true → (among ks n).takes ≤ m
unfolding among
among_most [] n m e = omega arith
among_most (k ∷ ks) n m e =
    let t = both (leb k.takes m) (take_most m ks) e in
    either (eqb n k.number) k (among ks n) m (leb-true _ _ t.0) (among_most ks n m t.1)

-- no payload is longer than that of the flags
pub payload_most : (n : ℕ) → payload_length n ≤ 97
unfolding payload_length
payload_most n = among_most kinds n 97 refl
