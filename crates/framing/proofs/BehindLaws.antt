-- WHAT FOLLOWS THE FIRST SUB-PACKET CHANGES NOTHING in its framing, where it is accepted and where it is refused: bytes behind it may be there or
-- not, and be any.
use mathlib.Core.Path.{◌≡◌, refl, sym, ap, ap₂, ◌∙◌}
use mathlib.Core.List.{List, ◌++◌}
use Prim.Native.Nat.{ℕ, zero, suc, ◌≤◌}
use native.Mathlib.Omega.{arith}
use borrow.Author.Tests.{le-ltb}
use lib.Dec.{ltb}
use lib.ListN.{length, take, length-append}
use lib.Seq.{length-take-le, take-take, take-append_seam}
use Rattle.numbers.proofs.FieldLaws.{field-front}
use Rattle.framing.specs.Refusals.{too_short, wrong_type, length_too_small, cut_off, refuse, or_else, unless_refused}
use Rattle.framing.specs.Refusals.{Refusal}
use Rattle.framing.specs.Framing.{type_of, length_of, head_refusal, last_type, frame_refusal, frame_of}

-- the first n bytes, among them the whole first sub-packet
module _ (s : List ℕ) (n : ℕ) (two : 2 ≤ n) (whole : length_of s ≤ n) (there : n ≤ length s) where
  long : length (take n s) ≡ n
  long = length-take-le n s there

  type_front : type_of (take n s) ≡ type_of s
  type_front = field-front s 0 4 n (omega arith)

  pub length_front : length_of (take n s) ≡ length_of s
  length_front = field-front s 4 7 n (omega arith)

  pub head-front : (low high : ℕ) → head_refusal (take n s) low high ≡ head_refusal s low high
  unfolding head_refusal
  head-front low high =
      let short : ltb (length (take n s)) 2 ≡ ltb (length s) 2 = le-ltb (length (take n s)) 2 (omega (arith, long)) ∙ sym (le-ltb (length s) 2 (omega arith)) in
      let cut : ltb (length (take n s)) (length_of (take n s)) ≡ ltb (length s) (length_of s) =
      le-ltb (length (take n s)) (length_of (take n s)) (omega (arith, long, length_front)) ∙ sym (le-ltb (length s) (length_of s) (omega arith)) in
      λ i. or_else (refuse (short i) too_short)
      (or_else (refuse (ltb (type_front i) low) wrong_type)
      (or_else (refuse (ltb high (type_front i)) wrong_type)
      (or_else (refuse (ltb (length_front i) 2) length_too_small) (refuse (cut i) cut_off))))

  frame-front : frame_of (take n s) ≡ frame_of s
  unfolding unless_refused
  frame-front = ap₂ (λ (r : Refusal) (k : ℕ). take (unless_refused r.number k 0) (take n s)) (head-front 0 last_type) length_front ∙ shorter (frame_refusal s).number
    where
      shorter : (r : ℕ) → take (unless_refused r (length_of s) 0) (take n s) ≡ take (unless_refused r (length_of s) 0) s
      shorter zero = take-take (length_of s) n s whole
      shorter (suc r) = refl

-- ---- the laws

-- bytes that begin with a whole sub-packet, and more behind them
module _ (s more : List ℕ) (two : 2 ≤ length s) (whole : length_of s ≤ length s) where
  pub unread : {A : Type 0} (f : List ℕ → A) → f (take (length s) (s ++ more)) ≡ f (s ++ more) → f (s ++ more) ≡ f s
  unread f e = sym e ∙ ap f (take-append_seam s more)

  pub inside : length_of (s ++ more) ≤ length s
  inside = omega (arith, unread length_of (field-front (s ++ more) 4 7 (length s) (omega arith)))

  pub there : length s ≤ length (s ++ more)
  there = rw length-append (omega arith)

  -- what follows is not read by framing
  pub frame-unread : (frame_refusal (s ++ more) ≡ frame_refusal s) × (frame_of (s ++ more) ≡ frame_of s)
  frame-unread = (
    unread frame_refusal (head-front (s ++ more) (length s) two inside there 0 last_type),
    unread frame_of (frame-front (s ++ more) (length s) two inside there),
  )

-- so it may be replaced by any other bytes, more or fewer
module _ (s a b : List ℕ) (two : 2 ≤ length s) (whole : length_of s ≤ length s) where
  pub frame_replaced : (frame_refusal (s ++ a) ≡ frame_refusal (s ++ b)) × (frame_of (s ++ a) ≡ frame_of (s ++ b))
  frame_replaced =
      let x = frame-unread s a two whole in
      let y = frame-unread s b two whole in
      (x.0 ∙ sym y.0, x.1 ∙ sym y.1)
