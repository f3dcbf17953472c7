-- Laws of three numbers of the same width, one behind the other, as the run of an entry and the header are: what is put there is read, and all
-- else stays.
use Prim.Native.Nat.{ℕ, ◌+◌, ◌*◌, ◌^◌, ◌≤◌, ◌<◌}
use mathlib.Core.List.{List}
use mathlib.Core.Logic.{inl}
use mathlib.Core.Path.{◌≡◌, refl, ◌∙◌}
use native.Mathlib.Omega.{arith}
use lib.ListN.{length}
use Rattle.numbers.specs.Numbers.{number_at, put_number}
use Rattle.numbers.proofs.FieldLaws.{Bytes, field_put}
use Rattle.store.proofs.Frames.{Changes, widen, next, number_changes, number-stays}

-- a number that was put is read
pub number-back : (n : ℕ) (s : List ℕ) (i x : ℕ) → i + n ≤ length s → x < 2 ^ (8 * n) → number_at n (put_number n s i x) i ≡ x
number-back n s i x h l = field_put s (8 * i) (8 * n) x (omega arith) l

-- three numbers of w bytes put
unfoldable pub three_put : ℕ → List ℕ → ℕ → ℕ → ℕ → ℕ → ℕ → ℕ → List ℕ
three_put w s i j k a b c = put_number w (put_number w (put_number w s i a) j b) k c

module _ (w : ℕ) (s : List ℕ) (h : Bytes s) (i j k a b c : ℕ) (second : j ≡ i + w) (third : k ≡ j + w) where
  one : List ℕ
  one = put_number w s i a

  two : List ℕ
  two = put_number w one j b

  three : List ℕ
  three = put_number w two k c

  change-one : Changes s one i w
  unfolding one
  change-one = number_changes w s i a h

  change-two : Changes one two j w
  unfolding two
  change-two = number_changes w one j b change-one.bytes

  change-three : Changes two three k w
  unfolding three
  change-three = number_changes w two k c change-two.bytes

  put_is : three_put w s i j k a b c ≡ three
  unfolding three_put one two three
  put_is = refl

  -- only their bytes change
  pub three_changes : Changes s (three_put w s i j k a b c) i (w + w + w)
  three_changes =
      rw put_is
      (next (widen change-one i (w + w + w) (omega arith) (omega arith))
      (next (widen change-two i (w + w + w) (omega arith) (omega arith)) (widen change-three i (w + w + w) (omega arith) (omega arith))))

  module _ (room : i + (w + w + w) ≤ length s) where
    pub first_back : a < 2 ^ (8 * w) → number_at w (three_put w s i j k a b c) i ≡ a
    unfolding one
    first_back l =
        rw put_is
        (number-stays change-three w i (inl (omega arith))
        ∙ number-stays change-two w i (inl (omega arith))
        ∙ number-back w s i a (omega arith) l)

    pub second_back : b < 2 ^ (8 * w) → number_at w (three_put w s i j k a b c) j ≡ b
    unfolding two
    second_back l =
        rw put_is (number-stays change-three w j (inl (omega arith)) ∙ number-back w one j b (omega (arith, change-one.size)) l)

    pub third_back : c < 2 ^ (8 * w) → number_at w (three_put w s i j k a b c) k ≡ c
    unfolding three
    third_back l = rw put_is (number-back w two k c (omega (arith, change-one.size, change-two.size)) l)
