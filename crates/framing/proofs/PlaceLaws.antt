-- WHERE A FRAMING SAYS THAT IT BROKE.
use mathlib.Core.Path.{◌≡◌, refl}
use mathlib.Core.List.{List}
use Prim.Native.Nat.{ℕ, ◌≤◌}
use native.Mathlib.Omega.{arith}
use Rattle.framing.specs.Refusals.{type_at, length_at}
use Rattle.framing.specs.Framing.{head_refusal}
use Rattle.framing.specs.Refusals.{Refusal}
use Rattle.framing.proofs.RefusalLaws.{tried, tested}

-- what the number and the place of a header's refusal say together
pub data HeadTold (r : Refusal) : Type 0 where
  no_field : r.number ≤ 1 → r.place ≡ 0 → HeadTold r
  at_type : r.number ≡ 2 → r.place ≡ type_at → HeadTold r
  at_length : r.number ≡ 3 → r.place ≡ length_at → HeadTold r

-- every refusal by the header, and none, is one of these
pub head-told : (s : List ℕ) (low high : ℕ) → HeadTold (head_refusal s low high)
unfolding head_refusal
head-told s low high =
    tried HeadTold _ _ _ _ (λ e. no_field (omega arith) refl)
    (λ e. tried HeadTold _ _ _ _ (λ e. at_type refl refl)
    (λ e. tried HeadTold _ _ _ _ (λ e. at_type refl refl)
    (λ e. tried HeadTold _ _ _ _ (λ e. at_length refl refl)
    (λ e. tested HeadTold _ _ (λ e. no_field (omega arith) refl) (λ e. no_field (omega arith) refl)))))

module _ {r : Refusal} where
  -- the place is 0 where the answer is 0, 1 or 2, and 4 where it is not
  pub head-zero : HeadTold r → r.number ≤ 2 → r.place ≡ 0
  head-zero (no_field n p) l = p
  head-zero (at_type n p) l = p
  head-zero (at_length n p) l = absurd (omega arith)

  pub head-other : HeadTold r → 3 ≤ r.number → r.place ≡ length_at
  head-other (no_field n p) l = absurd (omega arith)
  head-other (at_type n p) l = absurd (omega arith)
  head-other (at_length n p) l = p

  pub head_few : HeadTold r → r.number ≤ 3
  head_few (no_field n p) = omega arith
  head_few (at_type n p) = omega arith
  head_few (at_length n p) = omega arith
