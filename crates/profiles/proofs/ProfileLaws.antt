-- Laws of the pieces of entries, for any profile.
use mathlib.Core.Path.{◌≡◌, refl, sym, ap, ◌∙◌}
use mathlib.Core.List.{List, [], ◌++◌}
use Prim.Native.Nat.{ℕ, zero, suc, ◌+◌, ◌*◌, ◌≤◌, ◌<◌}
use native.Mathlib.Nat.{mul-zero, mul-suc}
use native.Mathlib.Omega.{arith}
use lib.ListN.{length, get_or, drop, length-append}
use lib.Seq.{drop_at}
use Rattle.numbers.specs.{Fields.field, Pieces.total, Pieces.times, Pieces.unpack}
use Rattle.numbers.proofs.PieceLaws.{length-unpack, total-append, unpack-append}
use Rattle.framing.specs.Refusals.{none, or_else, moved_by}
use Rattle.profiles.specs.Profiles.{Profile, widths_for, end_at, widths_at, widths_of, rules_refusal}
use Rattle.profiles.specs.Places.{entry_of}
pub use Rattle.profiles.specs.Regular.{Regular}

-- an entry has at least one piece
pub some : (f : Profile) → Regular f → 0 < f.pieces
some f reg = omega (arith, reg.long 0)

module _ (f : Profile) where
  -- ---- no entries, and one more

  pub at_none : (s : List ℕ) (p : ℕ) → widths_at f s p 0 ≡ []
  unfolding widths_at
  at_none s p = refl

  pub rules-none : (p : ℕ) (list : List ℕ) → rules_refusal f p list 0 ≡ none
  unfolding rules_refusal
  rules-none p list = refl

  pub of_none : (list : List ℕ) → widths_of f list 0 ≡ []
  unfolding widths_of
  of_none list = refl

  -- where a first entry ends, the one behind it starts
  pub total-suc : (s : List ℕ) (p n : ℕ) → p + total (widths_at f s p (suc n)) ≡ end_at f s p + total (widths_at f s (end_at f s p) n)
  unfolding widths_at
  total-suc s p n = omega (arith, total-append (widths_for f (field s p f.first)) (widths_at f s (end_at f s p) n))

  pub unpack-suc : (s : List ℕ) (p n : ℕ)
      → unpack s p (widths_at f s p (suc n)) ≡ unpack s p (widths_for f (field s p f.first)) ++ unpack s (end_at f s p) (widths_at f s (end_at f s p) n)
  unfolding widths_at
  unpack-suc s p n = unpack-append s p (widths_for f (field s p f.first)) (widths_at f s (end_at f s p) n)

  -- where all entries have the same widths, they are these widths n times over
  module _ (ws : List ℕ) (same : (v : ℕ) → widths_for f v ≡ ws) where
    pub steady_at : (s : List ℕ) (p n : ℕ) → widths_at f s p n ≡ times n ws
    unfolding widths_at times
    steady_at s p zero = refl
    steady_at s p (suc n) = λ i. same (field s p f.first) i ++ steady_at s (end_at f s p) n i

    pub steady_of : (list : List ℕ) (n : ℕ) → widths_of f list n ≡ times n ws
    unfolding widths_of times
    steady_of list zero = refl
    steady_of list (suc n) = λ i. same (get_or list 0 0) i ++ steady_of (drop f.pieces list) n i

  -- ---- widths are fixed by the bits that they take

  pub widths_agree : (s t : List ℕ) (k : ℕ) → ((p w : ℕ) → p + w ≤ k → field s p w ≡ field t p w) → (p n : ℕ) → p + total (widths_at f s p n) ≤ k
      → widths_at f s p n ≡ widths_at f t p n
  unfolding widths_at total
  widths_agree s t k same p zero h = refl
  widths_agree s t k same p (suc n) h =
      let ws : List ℕ = widths_for f (field s p f.first) in
      let all : total (ws ++ widths_at f s (p + total ws) n) ≡ total ws + total (widths_at f s (p + total ws) n) = total-append ws (widths_at f s (p + total ws) n) in
      ap (λ (more : List ℕ). ws ++ more) (widths_agree s t k same (p + total ws) n (omega arith))
      ∙ ap (λ (v : ℕ). widths_for f v ++ widths_at f t (p + total (widths_for f v)) n) (same p f.first (omega arith))

  -- ---- widths by the bits, and by the bytes outside

  module _ (reg : Regular f) where
    pub length_at : (s : List ℕ) (p n : ℕ) → length (widths_at f s p n) ≡ f.pieces * n
    unfolding widths_at
    length_at s p zero = sym (mul-zero f.pieces)
    length_at s p (suc n) = rw (length-append, reg.long, mul-suc) (omega (arith, length_at s (end_at f s p) n))

    pub length-of : (list : List ℕ) (n : ℕ) → length (widths_of f list n) ≡ f.pieces * n
    unfolding widths_of
    length-of list zero = sym (mul-zero f.pieces)
    length-of list (suc n) = rw (length-append, reg.long, mul-suc) (omega (arith, length-of (drop f.pieces list) n))

    -- an entry outside, and the bytes behind it
    pub entry_long : (s : List ℕ) (p v : ℕ) → length (unpack s p (widths_for f v)) ≡ f.pieces
    entry_long s p v = length-unpack s p (widths_for f v) ∙ reg.long v

    pub drop-entry : (s : List ℕ) (p v : ℕ) (more : List ℕ) → drop f.pieces (unpack s p (widths_for f v ++ more)) ≡ unpack s (p + total (widths_for f v)) more
    drop-entry s p v more = ap (drop f.pieces) (unpack-append s p (widths_for f v) more) ∙ drop_at (unpack s p (widths_for f v)) _ f.pieces (entry_long s p v)

    -- the bytes that were read have the widths by which they were read
    pub widths_read : (s : List ℕ) (p n : ℕ) → widths_of f (unpack s p (widths_at f s p n)) n ≡ widths_at f s p n
    unfolding widths_of widths_at unpack
    widths_read s p zero = refl
    widths_read s p (suc n) =
        let v : ℕ = field s p f.first in
        let more : List ℕ = widths_at f s (p + total (widths_for f v)) n in
        ap (λ (rest : List ℕ). widths_for f v ++ rest)
        (ap (λ (list : List ℕ). widths_of f list n) (drop-entry s p v more) ∙ widths_read s (p + total (widths_for f v)) n)

    -- and bits that read as a list by its widths have these widths
    pub widths_same : (s : List ℕ) (p : ℕ) (list : List ℕ) (n : ℕ) → unpack s p (widths_of f list n) ≡ list → widths_at f s p n ≡ widths_of f list n
    unfolding widths_of widths_at unpack
    widths_same s p list zero e = refl
    widths_same s p list (suc n) e =
        let v : ℕ = get_or list 0 0 in
        let more : List ℕ = widths_of f (drop f.pieces list) n in
        let first : field s p f.first ≡ v = ap (λ (l : List ℕ). get_or l 0 0) e in
        let rest : unpack s (p + total (widths_for f v)) more ≡ drop f.pieces list = sym (drop-entry s p v more) ∙ ap (drop f.pieces) e in
        ap (λ (x : ℕ). widths_for f x ++ widths_at f s (p + total (widths_for f x)) n) first
        ∙ ap (λ (l : List ℕ). widths_for f v ++ l) (widths_same s (p + total (widths_for f v)) (drop f.pieces list) n rest)

    -- the rules on the first entry of a sub-packet, and on those behind it
    pub rules-suc : (s : List ℕ) (p n : ℕ) → rules_refusal f p (unpack s p (widths_at f s p (suc n))) (suc n)
        ≡ or_else (moved_by p (f.rules (entry_of f s p))) (rules_refusal f (end_at f s p) (unpack s (end_at f s p) (widths_at f s (end_at f s p) n)) n)
    unfolding rules_refusal unpack
    rules-suc s p n =
        let more : List ℕ = unpack s (end_at f s p) (widths_at f s (end_at f s p) n) in
        let long : length (entry_of f s p) ≡ f.pieces = entry_long s p (field s p f.first) in
        ap (λ (list : List ℕ). rules_refusal f p list (suc n)) (unpack-suc s p n)
        ∙ (λ i. or_else (moved_by p (reg.local (entry_of f s p) more long i)) (rules_refusal f (end_at f s p) (drop_at (entry_of f s p) more f.pieces long i) n))
