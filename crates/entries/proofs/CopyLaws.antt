-- Laws of a row that is copied: what the copy puts and what it leaves.
use Prim.Native.Nat.{ℕ, ◌+◌, ◌≤◌, ◌<◌}
use mathlib.Core.List.{List}
use mathlib.Core.Logic.{⊎_elim, inl, inr}
use mathlib.Core.Path.{◌≡◌, ap, ◌∙◌}
use native.Mathlib.Omega.{arith}
use lib.ListN.{length, get_or, take, drop, replicate, length-take, length-replicate}
use lib.Seq.{sets, length-sets, ext_get_or, get_or-take}
use borrow.Author.Tests.{lt-ltb, le-ltb}
use Rattle.numbers.proofs.FieldLaws.{Bytes}
use Rattle.numbers.proofs.CopyLaws.{sets_out, sets_in}
use Rattle.rows.specs.Row.{row_bytes, row_at}
use Rattle.rows.proofs.RowLaws.{row_same}
use Rattle.trains.specs.Sought.{row_count}
use Rattle.store.proofs.Frames.{Changes}
use Rattle.store.proofs.Stretches.{bytes-sets, bytes-stretch, length-stretch, stretch_at}
use Rattle.entries.specs.Copied.{copied, row_copied}

module _ (bs : List ℕ) (from to : ℕ) (h : from + row_bytes ≤ length bs) where
  -- only the target changes
  pub copied_changes : Bytes bs → Changes bs (copied bs from to) to row_bytes
  unfolding copied
  copied_changes b =
      let e : length (take row_bytes (drop from bs)) ≡ row_bytes = length-stretch bs row_bytes from h in
      record {
        size = length-sets bs to (take row_bytes (drop from bs));
        bytes = bytes-sets bs to (take row_bytes (drop from bs)) b (bytes-stretch bs row_bytes from b);
        out = λ k o. sets_out bs to (take row_bytes (drop from bs)) k (⊎_elim (λ a. inl a) (λ a. inr (omega arith)) o);
      }

  module _ (g : to + row_bytes ≤ length bs) where
    -- a byte of the target is that of the source
    pub copied_in : (k : ℕ) → k < row_bytes → get_or (copied bs from to) (to + k) 0 ≡ get_or bs (from + k) 0
    unfolding copied
    copied_in k l =
        let e : length (take row_bytes (drop from bs)) ≡ row_bytes = length-stretch bs row_bytes from h in
        sets_in bs to (take row_bytes (drop from bs)) k (omega arith) (omega arith) ∙ stretch_at bs row_bytes from k l

    -- and they read as the same row
    pub copied-row : row_at (copied bs from to) to ≡ row_at bs from
    copied-row = row_same (copied bs from to) bs to from copied_in

-- a row is copied where its number is the register's
pub row_copied_lem : (s : List ℕ) (i from to : ℕ) → i < row_count → row_copied s i from to ≡ copied s from to
unfolding row_copied
row_copied_lem s i from to h = rw (lt-ltb i row_count h)

-- and any other number copies nothing
pub row-passed : (s : List ℕ) (i from to : ℕ) → row_count ≤ i → row_copied s i from to ≡ s
unfolding row_copied
row-passed s i from to h = rw (le-ltb i row_count h)

-- n bytes copied over as many others are what those are then
pub copied_over : (n : ℕ) (v : List ℕ) → length v ≡ n → take n (drop 0 (sets (replicate n 0) 0 v)) ≡ v
copied_over n v e =
    let z : List ℕ = replicate n 0 in
    let lz : length z ≡ n = length-replicate {A = ℕ} n 0 in
    let ls : length (sets z 0 v) ≡ n = length-sets z 0 v ∙ lz in
    ext_get_or 0 (take n (sets z 0 v)) v (length-take n (sets z 0 v) ∙ omega arith)
    (λ k l.
    let m : k < n = omega (arith, length-take n (sets z 0 v)) in
    get_or-take n (sets z 0 v) k 0 m ∙ ap (λ (i : ℕ). get_or (sets z 0 v) i 0) (omega arith) ∙ sets_in z 0 v k (omega arith) (omega arith))
