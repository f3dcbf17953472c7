-- The view after some bytes are changed.
use Prim.Native.Nat.{ℕ, ◌+◌, ◌*◌, ◌≤◌, ◌<◌}
use mathlib.Core.List.{List}
use mathlib.Core.Logic.{⊎_elim, ◌⊎◌, inl, inr, ◌≢◌}
use mathlib.Core.Path.{◌≡◌, refl, sym, ◌∙◌}
use native.Mathlib.Decide.{ℕ_discrete}
use native.Mathlib.Omega.{arith}
use lib.ListN.{length, get_or, set, length-set}
use lib.Seq.{ext_get_or, get_or-set_same, get_or-set_other}
use Rattle.numbers.proofs.FieldLaws.{lt_or_le}
use Rattle.register.specs.Register.{row_of}
use Rattle.trains.specs.Sought.{row_count}
use Rattle.rows.specs.Row.{row_bytes}
use Rattle.kinds.specs.Kinds.{last_slot}
use Rattle.trains.specs.Record.{blank_train}
use Rattle.trains.specs.declared.record.Train.{Train}
use Rattle.store.specs.Layout.{book_at, register_at, row_offset}
use Rattle.store.specs.Stands.{view_of, book_of}
use Rattle.store.proofs.Frames.{Clear, Changes, row_stays, stretch-stays}
use Rattle.store.proofs.ViewLaws.{view-row, view-rows}

-- a view by its parts
pub view-by : (bs : List ℕ) (rows : List Train) (book : List ℕ) → (view_of bs).rows ≡ rows → book_of bs ≡ book
    → view_of bs ≡ record { rows = rows; book = book }
unfolding view_of
view-by bs rows book p q = λ i. record { rows = p i; book = q i }

-- the book of the view is the book in the bytes
pub view-book : (bs : List ℕ) → (view_of bs).book ≡ book_of bs
unfolding view_of
view-book bs = refl

-- the same rows in the bytes are the same rows of the view
pub rows_same : (s t : List ℕ) → ((j : ℕ) → j < row_count → row_of t register_at j ≡ row_of s register_at j) → (view_of t).rows ≡ (view_of s).rows
rows_same s t h =
    ext_get_or blank_train (view_of t).rows (view_of s).rows (view-rows t ∙ sym (view-rows s))
    (λ k l.
    let m : k < row_count = omega (arith, view-rows t) in
    view-row t k m ∙ h k m ∙ sym (view-row s k m))

-- one row is another, and the rest are the same
pub rows-set : (s t : List ℕ) (r : ℕ) (x : Train) → r < row_count → row_of t register_at r ≡ x
    → ((j : ℕ) → j < row_count → j ≢ r → row_of t register_at j ≡ row_of s register_at j) → (view_of t).rows ≡ set (view_of s).rows r x
rows-set s t r x h e rest =
    ext_get_or blank_train (view_of t).rows (set (view_of s).rows r x) (view-rows t ∙ sym (length-set (view_of s).rows r x ∙ view-rows s))
    (λ k l. at k (omega (arith, view-rows t)) (ℕ_discrete k r))
  where
    at : (k : ℕ) → k < row_count → Dec (k ≡ r) → get_or (view_of t).rows k blank_train ≡ get_or (set (view_of s).rows r x) k blank_train
    at k m (yes q) = rw q (view-row t r h ∙ e ∙ sym (get_or-set_same (view_of s).rows r x blank_train (omega (arith, view-rows s))))
    at k m (no ne) =
        view-row t k m ∙ rest k m ne ∙ sym (get_or-set_other (view_of s).rows r k x blank_train ne ∙ view-row s k m)

module _ {s t : List ℕ} {at n : ℕ} (r : Changes s t at n) where
  -- a change outside the register leaves its rows
  pub rows_stay : Clear register_at (row_bytes * row_count) at n → (view_of t).rows ≡ (view_of s).rows
  rows_stay h = rows_same s t (λ j l. row_stays r (row_offset j) (⊎_elim (λ a. inl (omega arith)) (λ a. inr (omega arith)) h))

  -- and one outside the book leaves the book
  pub book-stays : register_at ≤ length s → Clear book_at last_slot at n → book_of t ≡ book_of s
  book-stays room h = stretch-stays r book_at last_slot room h

  -- one outside both leaves the view
  pub view-stays : register_at ≤ length s → Clear book_at (last_slot + row_bytes * row_count) at n → view_of t ≡ view_of s
  view-stays room h =
      view-by t (view_of s).rows (view_of s).book
      (rows_stay (⊎_elim (λ a. inl (omega arith)) (λ a. inr (omega arith)) h))
      (book-stays room (⊎_elim (λ a. inl (omega arith)) (λ a. inr (omega arith)) h) ∙ sym (view-book s))

-- a change of one row's bytes is a change of that row
pub row-changed : {s t : List ℕ} (i : ℕ) (x : Train) → Changes s t (row_offset i) row_bytes → register_at ≤ length s → i < row_count → row_of t register_at i ≡ x
    → view_of t ≡ record { rows = set (view_of s).rows i x; book = (view_of s).book }
row-changed {s} {t} i x r room h e =
    view-by t (set (view_of s).rows i x) (view_of s).book
    (rows-set s t i x h e (λ j l ne. row_stays r (row_offset j) (side j ne (lt_or_le j i))))
    (book-stays r room (inl (omega arith)) ∙ sym (view-book s))
  where
    side : (j : ℕ) → j ≢ i → (j < i) ⊎ (i ≤ j) → Clear (row_offset j) row_bytes (row_offset i) row_bytes
    side j ne (inl a) = inl (omega arith)
    side j ne (inr a) = let b : i < j = ⊎_elim (λ l. l) (λ l. absurd (ne (omega arith))) (lt_or_le i j) in inr (omega arith)
