-- Laws of the view: its rows are the register's, and a search of it finds what a search of the register does.
use Rattle.std.specs.Prelude.{Option, None, Some}
use Prim.Native.Nat.{ℕ, zero, suc, ◌+◌, ◌*◌, ◌≤◌, ◌<◌}
use mathlib.Core.Bool.{Bool, true, false, cond}
use mathlib.Core.List.{List}
use mathlib.Core.Path.{◌≡◌, refl, sym, ap, ◌∙◌, subst}
use native.Mathlib.Omega.{arith}
use lib.ListN.{length, get_or, get_or-eq_default}
use Rattle.replay.specs.Demand3.{depth}
use Rattle.trains.specs.declared.sought.Sought.{Sought}
use Rattle.register.specs.Register.{row_of, sought_at, found_in}
use Rattle.trains.specs.Sought.{row_count, is_sought}
use Rattle.rows.specs.Row.{row_bytes}
use Rattle.rows.proofs.FitLaws.{Fits, fits_read}
use Rattle.kinds.specs.Found.{first}
use Rattle.trains.specs.Record.{blank_train}
use Rattle.kinds.proofs.FoundLaws.{Before, first_below, first-true, first-before}
use Rattle.store.specs.Layout.{register_at, entry_bytes, entry_offset, session_bytes}
use Rattle.rules.specs.View.{View, row_in, sought_in, find_in}
use Rattle.store.specs.Stands.{rows_from, view_of, kept_of, head_of}

pub length-rows : (bs : List ℕ) (i n : ℕ) → length (rows_from bs i n) ≡ n
unfolding rows_from
length-rows bs i zero = refl
length-rows bs i (suc n) = ap suc (length-rows bs (suc i) n)

pub rows_at : (bs : List ℕ) (i n k : ℕ) → k < n → get_or (rows_from bs i n) k blank_train ≡ row_of bs register_at (i + k)
unfolding rows_from
rows_at bs i zero k h = absurd (omega arith)
rows_at bs i (suc n) zero h = ap (λ (j : ℕ). row_of bs register_at j) (omega arith)
rows_at bs i (suc n) (suc k) h = rows_at bs (suc i) n k (omega arith) ∙ ap (λ (j : ℕ). row_of bs register_at j) (omega arith)

-- row i of the view is row i of the register
pub view-row : (bs : List ℕ) (i : ℕ) → i < row_count → row_in (view_of bs) i ≡ row_of bs register_at i
unfolding view_of
view-row bs i h = rows_at bs 0 row_count i h ∙ ap (λ (j : ℕ). row_of bs register_at j) (omega arith)

-- and any other is blank
pub view_row_past : (bs : List ℕ) (i : ℕ) → row_count ≤ i → row_in (view_of bs) i ≡ blank_train
unfolding view_of
view_row_past bs i h = get_or-eq_default (rows_from bs 0 row_count) blank_train (omega (arith, length-rows bs 0 row_count))

-- a view read from bytes has 24 rows
pub view-rows : (bs : List ℕ) → length (view_of bs).rows ≡ row_count
unfolding view_of
view-rows bs = length-rows bs 0 row_count

-- whose trains fit a row of bytes
pub view-fits : (bs : List ℕ) (i : ℕ) → i < row_count → Fits (row_in (view_of bs) i)
view-fits bs i h = rw (view-row bs i h) (fits_read bs (register_at + row_bytes * i))

first-same : (p q : ℕ → Bool) (i n : ℕ) → ((k : ℕ) → i ≤ k → k < i + n → p k ≡ q k) → first p i n ≡ first q i n
unfolding first
first-same p q i zero h = refl
first-same p q i (suc n) h =
    λ j. cond (h i (omega arith) (omega arith) j) (Some i) (first-same p q (suc i) n (λ k l u. h k (omega arith) (omega arith)) j)

-- a search of the view is the search of the register
pub find_in_lem : (bs : List ℕ) (sought : Sought) → find_in (view_of bs) sought ≡ found_in bs register_at sought
unfolding find_in found_in sought_in sought_at
find_in_lem bs sought =
    first-same (sought_in (view_of bs) sought) (sought_at bs register_at sought) 0 row_count
    (λ k l u. ap (is_sought sought) (view-row bs k (omega arith)))

module _ (v : View) (sought : Sought) where
  -- what is found is one of the 24 rows
  pub find_below : (i : ℕ) → find_in v sought ≡ Some i → i < row_count
  unfolding find_in
  find_below i e = omega (arith, first_below (sought_in v sought) 0 row_count i e)

  -- and holds what is sought
  pub find_holds : (i : ℕ) → find_in v sought ≡ Some i → is_sought sought (row_in v i) ≡ true
  unfolding find_in sought_in
  find_holds i e = first-true (sought_in v sought) 0 row_count i e

  -- where nothing is found, no row does
  pub find_none : find_in v sought ≡ None → (k : ℕ) → k < row_count → is_sought sought (row_in v k) ≡ false
  unfolding find_in sought_in
  find_none e k l =
      first-before (sought_in v sought) 0 row_count k (omega arith) (omega arith) (subst (λ (f : Option ℕ). Before k f) (sym e) tt)

-- ---- the ring

-- the head is one of the ring's notches
pub head_in : (bs : List ℕ) → head_of bs < depth
unfolding depth
head_in bs = omega arith

-- and no more entries are kept than it has
pub kept_in_lem : (bs : List ℕ) → kept_of bs ≤ depth
unfolding depth
kept_in_lem bs = omega arith

-- each notch has its entry in the bytes
pub entry-room : (p : ℕ) → p < depth → entry_offset p + entry_bytes ≤ session_bytes
entry-room p h = omega arith
