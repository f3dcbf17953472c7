-- Laws of the search for a bit that is set.
use mathlib.Core.Path.{◌≡◌, refl, sym, ap, subst, ◌∙◌}
use mathlib.Core.List.{List}
use mathlib.Core.Logic.{⊎_elim}
use Prim.Native.Nat.{ℕ, zero, suc, ◌+◌, ◌*◌, ◌^◌, ◌≤◌, ◌<◌}
use native.Mathlib.Decide.{ℕ_discrete}
use native.Mathlib.Nat.{zero-add, add-zero, zero-mul, eq-or-lt_of_le}
use native.Mathlib.Numerals.{add-one, one-add}
use native.Mathlib.Omega.{arith}
use borrow.Author.Tests.{eq-eqb, ne_eqb}
use lib.ListN.{take}
use Rattle.numbers.specs.Fields.{bit_at, field}
use Rattle.numbers.proofs.FieldLaws.{field-zero, field-suc, field-add, field-front, bit_lt}
use Rattle.fields.specs.FirstSet.{first_set, FirstOf}

-- a bit is a field of one
pub field-one : (s : List ℕ) (p : ℕ) → field s p 1 ≡ bit_at s p
field-one s p = field-suc s p 0 ∙ (λ i. field-zero s p i * 2 + bit_at s (add-zero p i)) ∙ zero-add (bit_at s p)

-- a bit that is 1 is found, and one that is not is passed
pub found : (s : List ℕ) (p w : ℕ) → bit_at s p ≡ 1 → p ≡ first_set s p (suc w)
unfolding first_set
found s p w e = rw (eq-eqb (bit_at s p) 1 e)

pub passed : (s : List ℕ) (p w : ℕ) → (bit_at s p ≡ 1 → ⊥) → first_set s (suc p) w ≡ first_set s p (suc w)
unfolding first_set
passed s p w ne = rw (ne_eqb (bit_at s p) 1 ne)

pub nothing_left : (s : List ℕ) (p : ℕ) → first_set s p 0 ≡ p
unfolding first_set
nothing_left s p = refl

-- ---- what the search finds, where the field is not 0

-- behind a first bit that is 0, the field is that of the others
behind-zero : (s : List ℕ) (p w : ℕ) → bit_at s p ≡ 0 → field s p (suc w) ≡ field s (suc p) w
behind-zero s p w e =
    ap (field s p) (sym (one-add w))
    ∙ field-add s p 1 w
    ∙ (λ i. (field-one s p ∙ e) i * 2 ^ w + field s (add-one p i) w)
    ∙ ap (λ (n : ℕ). n + field s (suc p) w) (zero-mul (2 ^ w))
    ∙ zero-add (field s (suc p) w)

bit_zero : (s : List ℕ) (p : ℕ) → (bit_at s p ≡ 1 → ⊥) → bit_at s p ≡ 0
bit_zero s p ne =
    let most : bit_at s p ≤ 1 = omega (arith, bit_lt s p) in
    ⊎_elim (λ (e : bit_at s p ≡ 1). absurd (ne e)) (λ (l : bit_at s p < 1). omega arith) (eq-or-lt_of_le most)

-- what was found behind a first bit that is 0 is found with it
found-behind : (s : List ℕ) (p w q : ℕ) → bit_at s p ≡ 0 → FirstOf s (suc p) w q → FirstOf s p (suc w) q
found-behind s p w q e f = record {
  from = omega (arith, f.from);
  before = omega (arith, f.before);
  is_set = f.is_set;
  zeros = λ k h l. ⊎_elim (λ (same : p ≡ k). ap (bit_at s) (sym same) ∙ e) (λ (after : p < k). f.zeros k (omega arith) l) (eq-or-lt_of_le h);
}

pub first_of : (s : List ℕ) (p w : ℕ) → 0 < field s p w → FirstOf s p w (first_set s p w)
first_of s p zero h = absurd (omega (arith, field-zero s p))
first_of s p (suc w) h = of (first_of s (suc p) w) (ℕ_discrete (bit_at s p) 1)
  where
    of : (0 < field s (suc p) w → FirstOf s (suc p) w (first_set s (suc p) w)) → Dec (bit_at s p ≡ 1) → FirstOf s p (suc w) (first_set s p (suc w))
    of more (yes e) =
        subst (FirstOf s p (suc w)) (found s p w e)
        (record { from = omega arith; before = omega arith; is_set = e; zeros = λ k h l. absurd (omega arith) })
    of more (no ne) =
        let z : bit_at s p ≡ 0 = bit_zero s p ne in
        subst (FirstOf s p (suc w)) (passed s p w ne) (found-behind s p w _ z (more (omega (arith, behind-zero s p w z))))

-- it hangs on the bytes of the bits that are searched alone
pub first-front : (s : List ℕ) (p w n : ℕ) → p + w ≤ 8 * n → first_set (take n s) p w ≡ first_set s p w
first-front s p zero n h = nothing_left (take n s) p ∙ sym (nothing_left s p)
first-front s p (suc w) n h = of (first-front s (suc p) w n (omega arith)) (ℕ_discrete (bit_at s p) 1)
  where
    bit : bit_at (take n s) p ≡ bit_at s p
    bit = sym (field-one (take n s) p) ∙ field-front s p 1 n (omega arith) ∙ field-one s p

    of : first_set (take n s) (suc p) w ≡ first_set s (suc p) w → Dec (bit_at s p ≡ 1) → first_set (take n s) p (suc w) ≡ first_set s p (suc w)
    of more (yes e) = sym (found (take n s) p w (bit ∙ e)) ∙ found s p w e
    of more (no ne) = sym (passed (take n s) p w (λ e. ne (sym bit ∙ e))) ∙ more ∙ passed s p w ne
