-- Laws of an effect put, by rows that are written or by rows that are copied: the view is the effect's on the view before, and nothing but the
-- book and the register changes.
use Prim.Native.Nat.{ℕ, ◌+◌, ◌*◌, ◌≤◌, ◌<◌}
use mathlib.Core.List.{List}
use mathlib.Core.Logic.{inr}
use mathlib.Core.Path.{◌≡◌, sym, ap, ◌∙◌}
use native.Mathlib.Omega.{arith}
use lib.Seq.{set_out}
use Rattle.register.specs.Register.{row_of}
use Rattle.rows.specs.Row.{row_bytes}
use Rattle.rules.specs.Effect.{mark_for, marked, change, row_changed, applied}
use Rattle.rules.specs.View.{View}
use Rattle.rules.specs.declared.effect.Change.{Change}
use Rattle.rules.specs.declared.effect.Effect.{Effect}
use Rattle.store.specs.Layout.{book_at, register_at, row_offset}
use Rattle.store.specs.Lent.{Lent}
use Rattle.store.specs.Stands.{view_of}
use Rattle.store.proofs.Frames.{Changes, unchanged, widen, next, lent_after}
use Rattle.store.proofs.RegisterLaws.{view-by, view-book, rows_stay, row-changed}
use Rattle.store.proofs.ViewLaws.{view-rows}
use Rattle.kinds.specs.Kinds.{last_slot}
use Rattle.trains.specs.Sought.{row_count}
use Rattle.trains.specs.declared.record.Train.{Train}
use Rattle.entries.specs.Marks.{run_marked}
use Rattle.entries.proofs.MarkLaws.{mark-small, slots_changes, slots-book}

-- ---- a row put

-- only the register changes, and the view has the row changed
pub record RowPut (s t : List ℕ) (c : Change) : Type 0 where
  pub changes : Changes s t register_at (row_bytes * row_count)
  pub view : view_of t ≡ record { rows = row_changed (view_of s).rows c; book = (view_of s).book }

-- where its number is the register's
pub row_put : {s t : List ℕ} (i : ℕ) (x : Train) → Lent s → i < row_count → Changes s t (row_offset i) row_bytes → row_of t register_at i ≡ x
    → RowPut s t (change i x)
row_put i x lent l r e = record {
  changes = widen r register_at (row_bytes * row_count) (omega arith) (omega arith);
  view = row-changed i x r (omega (arith, lent.size)) l e;
}

-- and any other number puts nothing
pub row_unput : (s : List ℕ) (c : Change) → Lent s → row_count ≤ c.row → RowPut s s c
row_unput s c lent l = record {
  changes = unchanged lent.bytes;
  view =
      view-by s (row_changed (view_of s).rows c) (view_of s).book
      (sym (set_out (view_of s).rows c.row c.train (omega (arith, view-rows s)))) (sym (view-book s));
}

-- ---- the effect put

module _ (s : List ℕ) (lent : Lent s) (e : Effect) where
  booked : List ℕ
  booked = run_marked s e.run

  book-change : Changes s booked book_at last_slot
  unfolding booked
  book-change = slots_changes s e.run.start.0 e.run.slots (mark_for e.run.taken) lent.bytes

  pub lent_booked : Lent (run_marked s e.run)
  unfolding booked
  lent_booked = lent_after lent book-change

  booked_view : view_of booked ≡ record { rows = (view_of s).rows; book = marked (view_of s).book e.run.start.0 e.run.slots (mark_for e.run.taken) }
  unfolding booked
  booked_view =
      view-by booked (view_of s).rows (marked (view_of s).book e.run.start.0 e.run.slots (mark_for e.run.taken))
      (rows_stay book-change (inr (omega arith)))
      (slots-book s e.run.start.0 e.run.slots (mark_for e.run.taken) lent.bytes (omega (arith, lent.size)) (omega (arith, mark-small e.run.taken))
      ∙ ap (λ (b : List ℕ). marked b e.run.start.0 e.run.slots (mark_for e.run.taken)) (sym (view-book s)))

  module _ {t u : List ℕ} (one : RowPut (run_marked s e.run) t e.changed) (two : RowPut t u e.also) where
    -- only the book and the register change
    pub put_changes : Changes s u book_at (last_slot + row_bytes * row_count)
    unfolding booked
    put_changes =
        next (widen book-change book_at (last_slot + row_bytes * row_count) (omega arith) (omega arith))
        (next (widen one.changes book_at (last_slot + row_bytes * row_count) (omega arith) (omega arith))
        (widen two.changes book_at (last_slot + row_bytes * row_count) (omega arith) (omega arith)))

    -- the view is the effect's on the view before
    pub put_view : view_of u ≡ applied (view_of s) e
    unfolding applied booked
    put_view =
        two.view
        ∙ ap (λ (v : View). record { rows = row_changed v.rows e.also; book = v.book })
        (one.view ∙ ap (λ (v : View). record { rows = row_changed v.rows e.changed; book = v.book }) booked_view)
