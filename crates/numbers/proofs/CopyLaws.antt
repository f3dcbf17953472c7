-- Laws of copies: a run of bytes stored one after the other.
use Prim.Native.Nat.{ℕ, zero, suc, ◌+◌, ◌≤◌, ◌<◌}
use mathlib.Core.List.{List, [], ◌∷◌, ◌++◌, append_assoc}
use mathlib.Core.Logic.{⊎_elim, ◌⊎◌, inl, inr}
use mathlib.Core.Path.{◌≡◌, refl, sym, ap, ◌∙◌}
use native.Mathlib.Omega.{arith}
use lib.ListN.{length, get_or, set, take, drop, length-set}
use lib.Seq.{sets, sets-eq, set_out, get_or-set_same, get_or-set_other, take_all}
use borrow.Rule.Slice.PartMut.{put_mid}
use Rattle.std.proofs.lemmas.Slice.{put_mid-paste}
use Rattle.std.proofs.lemmas.List.Edits.{paste_all}

-- a part of a list that is overwritten is a run of stores
pub sets_part : (l vs ws : List ℕ) (i k : ℕ) → vs ≡ ws → k ≡ length ws → i + k ≤ length l → put_mid i k l vs ≡ sets l i ws
sets_part l vs ws i k e n h =
    put_mid-paste i k l vs ws k e refl n
    ∙ paste_all l i ws k n
    ∙ ap (λ (m : ℕ). take i l ++ (ws ++ drop (i + m) l)) n
    ∙ sym (append_assoc (take i l) ws (drop (i + length ws) l))
    ∙ sym (sets-eq ws l i (omega arith))

-- what is stored past the end is dropped
pub sets_past : (l vs : List ℕ) (i : ℕ) → length l ≤ i → sets l i vs ≡ l
sets_past l [] i h = refl
sets_past l (v ∷ vs) i h = ap (λ (m : List ℕ). sets m (suc i) vs) (set_out l i v h) ∙ sets_past l vs (suc i) (omega arith)

sets-room : (l v : List ℕ) (i k : ℕ) → length l ≤ i + k → sets l i (take k v) ≡ sets l i v
sets-room l [] i zero h = refl
sets-room l [] i (suc k) h = refl
sets-room l (x ∷ v) i zero h = sym (sets_past l (x ∷ v) i (omega arith))
sets-room l (x ∷ v) i (suc k) h = sets-room (set l i x) v (suc i) k (rw length-set (omega arith))

-- so the first k are all that are stored, where there are no more, or no more have room
pub sets_most : (l v : List ℕ) (i k : ℕ) → (length v ≤ k) ⊎ (length l ≤ i + k) → sets l i (take k v) ≡ sets l i v
sets_most l v i k h = ⊎_elim (λ m. ap (sets l i) (take_all k v m)) (λ m. sets-room l v i k m) h

-- a byte outside a run of stores stays
pub sets_out : (l : List ℕ) (i : ℕ) (vs : List ℕ) (k : ℕ) → (k < i) ⊎ (i + length vs ≤ k) → get_or (sets l i vs) k 0 ≡ get_or l k 0
sets_out l i [] k h = refl
sets_out l i (a ∷ vs) k h =
    sets_out (set l i a) (suc i) vs k (⊎_elim (λ b. inl (omega arith)) (λ b. inr (omega arith)) h)
    ∙ get_or-set_other l i k a 0 (λ e. ⊎_elim (λ b. omega arith) (λ b. omega arith) h)

-- a byte of the run is what was stored, as far as there is room
pub sets_in : (l : List ℕ) (i : ℕ) (vs : List ℕ) (k : ℕ) → i + k < length l → k < length vs → get_or (sets l i vs) (i + k) 0 ≡ get_or vs k 0
sets_in l i [] k h m = absurd (omega arith)
sets_in l i (a ∷ vs) zero h m =
    let e : i + 0 ≡ i = omega arith in
    ap (λ (n : ℕ). get_or (sets (set l i a) (suc i) vs) n 0) e
    ∙ sets_out (set l i a) (suc i) vs i (inl (omega arith))
    ∙ get_or-set_same l i a 0 (omega arith)
sets_in l i (a ∷ vs) (suc k) h m =
    let e : i + suc k ≡ suc i + k = omega arith in
    ap (λ (n : ℕ). get_or (sets (set l i a) (suc i) vs) n 0) e
    ∙ sets_in (set l i a) (suc i) vs k (rw length-set (omega arith)) (omega arith)
