-- A ring implements the list log: to write at the head is to put an entry on top and keep `cap`.
use Prim.Native.Nat.{ℕ, zero, suc, ◌+◌, ◌-◌, ◌≤◌, ◌<◌, min}
use native.Mathlib.Nat.{not-suc-le-zero, suc-min-suc, zero-min, min-zero}
use native.Mathlib.Omega.{arith}
use mathlib.Core.Path.{◌≡◌, refl, sym, ap, ap₂, ◌∙◌, subst}
use mathlib.Core.Logic.{◌⊎◌, inl, inr, ◌≢◌}
use mathlib.Core.Bool.{Bool, true, false, not}
use mathlib.Core.List.{List, ◌∷◌}
use lib.Dec.{T, leb, leb→le, nleb→lt}
use lib.ListN.{length, take}
use Rattle.ring.specs.Ring.{before, after, read_back}

-- a test, as one of two facts
pub data Split (b : Bool) (yes no : Type 0) : Type 0 where
  holds : yes → b ≡ true → Split b yes no
  fails : no → b ≡ false → Split b yes no

pub leb_split : (m n : ℕ) → Split (leb m n) (m ≤ n) (n < m)
leb_split m n = go (leb m n) refl
  where
    go : (b : Bool) → leb m n ≡ b → Split (leb m n) (m ≤ n) (n < m)
    go true e = holds (leb→le m n (subst T (sym e) tt)) e
    go false e = fails (nleb→lt m n (subst (λ (b : Bool). T (not b)) (sym e) tt)) e

module _ (cap : ℕ) where
  -- ── notches ──

  abbrev After : ℕ → Type 0
  After i = Split (leb (suc (suc i)) cap) (suc (suc i) ≤ cap) (cap < suc (suc i))

  pub after_in : (i : ℕ) → i < cap → after cap i < cap
  after_in i l = go (leb_split (suc (suc i)) cap)
    where
      go : After i → after cap i < cap
      go (holds h e) = rw e h
      go (fails h e) = rw e (omega arith)

  -- as a branch of the code has it
  pub after_up : (i r : ℕ) → suc i < cap → r ≡ suc i → r ≡ after cap i
  after_up i r l e = go (leb_split (suc (suc i)) cap)
    where
      go : After i → r ≡ after cap i
      go (holds h t) = rw t e
      go (fails h t) = absurd (omega arith)

  pub after_round : (i r : ℕ) → cap ≤ suc i → r ≡ 0 → r ≡ after cap i
  after_round i r l e = go (leb_split (suc (suc i)) cap)
    where
      go : After i → r ≡ after cap i
      go (holds h t) = absurd (omega arith)
      go (fails h t) = rw t e

  before-after : (i : ℕ) → i < cap → before cap (after cap i) ≡ i
  before-after i l = go (leb_split (suc (suc i)) cap)
    where
      go : After i → before cap (after cap i) ≡ i
      go (holds h e) = rw e refl
      go (fails h e) = rw e (omega arith)

  pub before_round : (i r : ℕ) → i ≡ 0 → r ≡ cap - 1 → r ≡ before cap i
  before_round zero r l e = e
  before_round (suc i) r l e = absurd (omega arith)

  pub before_down : (i r : ℕ) → 0 < i → r ≡ i - 1 → r ≡ before cap i
  before_down zero r l e = absurd (omega arith)
  before_down (suc i) r l e = omega arith

  pub before_in : (i : ℕ) → i < cap → before cap i < cap
  before_in zero l = omega arith
  before_in (suc i) l = omega arith

  -- ── reading ──

  -- x is not among the n notches before `at`
  abbrev Far : ℕ → ℕ → ℕ → Type 0
  Far n x at = (n + x < at) ⊎ ((at ≤ x) × (n + x < at + cap))

  module _ {Entry : Type 0} where
    pub length-read_back : (entry_at : ℕ → Entry) (at n : ℕ) → length (read_back cap entry_at at n) ≡ n
    unfolding read_back
    length-read_back entry_at at zero = refl
    length-read_back entry_at at (suc n) = ap suc (length-read_back entry_at (before cap at) n)

    take-read_back : (m : ℕ) (entry_at : ℕ → Entry) (at n : ℕ) → take m (read_back cap entry_at at n) ≡ read_back cap entry_at at (min m n)
    unfolding read_back
    take-read_back zero entry_at at n = rw zero-min
    take-read_back (suc m) entry_at at zero = rw min-zero
    take-read_back (suc m) entry_at at (suc n) = rw suc-min-suc (ap (λ (l : List Entry). entry_at (before cap at) ∷ l) (take-read_back m entry_at (before cap at) n))

    untouched : (p q : ℕ → Entry) (x : ℕ) → ((i : ℕ) → i < cap → i ≢ x → q i ≡ p i) → (n at : ℕ) → at < cap → x < cap → Far n x at
        → read_back cap q at n ≡ read_back cap p at n
    unfolding read_back
    untouched p q x same zero at l m f = refl
    untouched p q x same (suc n) zero l m (inl f) = absurd (not-suc-le-zero f)
    untouched p q x same (suc n) zero l m (inr f) =
        rw (same (cap - 1) (omega arith) (omega arith)) (ap (λ (r : List Entry). p (cap - 1) ∷ r) (untouched p q x same n (cap - 1) (omega arith) m (inl (omega arith))))
    untouched p q x same (suc n) (suc i) l m (inl f) =
        rw (same i (omega arith) (omega arith)) (ap (λ (r : List Entry). p i ∷ r) (untouched p q x same n i (omega arith) m (inl (omega arith))))
    untouched p q x same (suc n) (suc i) l m (inr f) =
        rw (same i (omega arith) (omega arith)) (ap (λ (r : List Entry). p i ∷ r) (untouched p q x same n i (omega arith) m (inr (omega arith))))

    -- two readers that agree at every notch read the same
    pub ring_same : (p q : ℕ → Entry) → ((i : ℕ) → i < cap → q i ≡ p i) → (n at : ℕ) → at < cap → read_back cap q at n ≡ read_back cap p at n
    unfolding read_back
    ring_same p q same zero at l = refl
    ring_same p q same (suc n) zero l = rw (same (cap - 1) (omega arith)) (ap (λ (r : List Entry). p (cap - 1) ∷ r) (ring_same p q same n (cap - 1) (omega arith)))
    ring_same p q same (suc n) (suc i) l = rw (same i (omega arith)) (ap (λ (r : List Entry). p i ∷ r) (ring_same p q same n i (omega arith)))

    -- PUSH: the entry e is written at the head h, and no other notch changes; the head moves on by one, and one more entry is kept, up to cap
    pub ring_push : (p q : ℕ → Entry) (e : Entry) (h n : ℕ) → h < cap → n ≤ cap → q h ≡ e → ((i : ℕ) → i < cap → i ≢ h → q i ≡ p i)
        → read_back cap q (after cap h) (min cap (suc n)) ≡ take cap (e ∷ read_back cap p h n)
    unfolding read_back
    ring_push p q e h n l m new same =
        ap (read_back cap q (after cap h)) counts
        ∙ ap (λ (i : ℕ). q i ∷ read_back cap q i rest) (before-after h l)
        ∙ ap₂ (λ (x : Entry) (r : List Entry). x ∷ r) new (untouched p q h same rest h l l (inr (omega arith)))
        ∙ ap (λ (r : List Entry). e ∷ r) (sym (take-read_back (cap - 1) p h n))
        ∙ ap (λ (c : ℕ). take c (e ∷ read_back cap p h n)) one_more
      where
        rest : ℕ
        rest = min (cap - 1) n

        counts : min cap (suc n) ≡ suc rest
        counts = omega arith

        one_more : suc (cap - 1) ≡ cap
        one_more = omega arith
