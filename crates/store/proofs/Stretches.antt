-- Stretches of bytes: what a run of stores puts and what it leaves, and stretches that are read.
use Prim.Native.Nat.{ℕ, suc, ◌+◌, ◌≤◌, ◌<◌}
use mathlib.Core.List.{List, [], ◌∷◌}
use mathlib.Core.Logic.{◌⊎◌, inl, inr}
use mathlib.Core.Path.{◌≡◌, sym, ◌∙◌}
use native.Mathlib.Decide.{ℕ_discrete}
use native.Mathlib.Omega.{arith}
use lib.ListN.{length, get_or, set, take, drop, length-take, length-drop, get_or-eq_default}
use lib.Seq.{sets, get_or-take, get_or-drop, get_or-set_same, get_or-set_other, set_out, ext_get_or}
use Rattle.numbers.proofs.FieldLaws.{Bytes, lt_or_le}

-- what stands before a run of n bytes at i, or behind it
abbrev pub Outside : ℕ → ℕ → ℕ → Type 0
Outside i n k = (k < i) ⊎ (i + n ≤ k)

-- two lists with the same bytes from a byte on, n of them, have the same stretch there
pub stretch-same : (s t : List ℕ) (a b n : ℕ) → a + n ≤ length s → b + n ≤ length t
    → ((k : ℕ) → k < n → get_or s (a + k) 0 ≡ get_or t (b + k) 0) → take n (drop a s) ≡ take n (drop b t)
stretch-same s t a b n hs ht h =
    let ls : length (take n (drop a s)) ≡ n = length-take n (drop a s) ∙ rw length-drop (omega arith) in
    let lt : length (take n (drop b t)) ≡ n = length-take n (drop b t) ∙ rw length-drop (omega arith) in
    ext_get_or 0 (take n (drop a s)) (take n (drop b t)) (ls ∙ sym lt)
    (λ k l.
    let m : k < n = omega arith in
    get_or-take n (drop a s) k 0 m ∙ get_or-drop a s k 0 ∙ h k m ∙ sym (get_or-take n (drop b t) k 0 m ∙ get_or-drop b t k 0))

-- ---- bytes stay bytes

-- numbers below m stay so where one below m is stored
pub set_below : (m : ℕ) (l : List ℕ) (i a : ℕ) → ((k : ℕ) → get_or l k 0 < m) → a < m → (k : ℕ) → get_or (set l i a) k 0 < m
set_below m l i a h below k = at (ℕ_discrete k i) (lt_or_le i (length l))
  where
    at : Dec (k ≡ i) → (i < length l) ⊎ (length l ≤ i) → get_or (set l i a) k 0 < m
    at (no ne) r = rw (get_or-set_other l i k a 0 ne) (h k)
    at (yes e) (inl r) = rw (e, get_or-set_same l i a 0 r) below
    at (yes e) (inr r) = rw (set_out l i a r) (h k)

pub bytes-sets : (l : List ℕ) (i : ℕ) (vs : List ℕ) → Bytes l → Bytes vs → Bytes (sets l i vs)
bytes-sets l i [] h v = h
bytes-sets l i (a ∷ vs) h v = bytes-sets (set l i a) (suc i) vs (set_below 256 l i a h (v 0)) (λ k. v (suc k))

-- a stretch, of whatever bytes there are
pub bytes-stretch : (bs : List ℕ) (n from : ℕ) → Bytes bs → Bytes (take n (drop from bs))
bytes-stretch bs n from h k = at (lt_or_le k n)
  where
    at : (k < n) ⊎ (n ≤ k) → get_or (take n (drop from bs)) k 0 < 256
    at (inl l) = rw (get_or-take n (drop from bs) k 0 l, get_or-drop from bs k 0) (h (from + k))
    at (inr l) = rw (get_or-eq_default (take n (drop from bs)) 0 {n = k} (omega (arith, length-take n (drop from bs)))) (omega arith)

-- ---- a stretch that is read

pub length-stretch : (bs : List ℕ) (n from : ℕ) → from + n ≤ length bs → length (take n (drop from bs)) ≡ n
length-stretch bs n from h = length-take n (drop from bs) ∙ rw length-drop (omega arith)

pub stretch_at : (bs : List ℕ) (n from k : ℕ) → k < n → get_or (take n (drop from bs)) k 0 ≡ get_or bs (from + k) 0
stretch_at bs n from k h = get_or-take n (drop from bs) k 0 h ∙ get_or-drop from bs k 0
