-- Laws of an entry undone: the view is the entry's, as of any effect, and nothing but the book and the register changes.
use Prim.Native.Nat.{ℕ, ◌+◌, ◌*◌, ◌≤◌}
use mathlib.Core.List.{List}
use mathlib.Core.Logic.{⊎_elim, inr}
use mathlib.Core.Path.{◌≡◌, refl}
use native.Mathlib.Omega.{arith}
use lib.ListN.{length}
use Rattle.numbers.specs.Numbers.{number_at}
use Rattle.numbers.proofs.FieldLaws.{lt_or_le}
use Rattle.rows.specs.Row.{row_bytes, row_at}
use Rattle.rules.specs.Effect.{mark_for, no_change}
use Rattle.store.specs.Layout.{book_at, log_at, row_offset, kept_row_bytes, entry_bytes, changed_at, also_at, session_bytes}
use Rattle.store.specs.Lent.{Lent}
use Rattle.store.specs.Stands.{view_of}
use Rattle.store.proofs.Frames.{Changes, lent_after}
use Rattle.kinds.specs.Kinds.{last_slot}
use Rattle.trains.specs.Sought.{row_count}
use Rattle.entries.specs.Entry.{undone, run_at, change_at, entry_at}
use Rattle.entries.specs.Undone.{run_back, row_back, entry_back}
use Rattle.entries.proofs.CopyLaws.{copied_changes, copied-row, row_copied_lem, row-passed}
use Rattle.entries.proofs.EntryLaws.{change-stays, change-there, change-none}
use Rattle.entries.proofs.MarkLaws.{slots_changes}
use Rattle.entries.proofs.PutLaws.{RowPut, row_put, row_unput, put_changes, put_view}

-- a row is copied back from the entry
copied-back : (s : List ℕ) (at : ℕ) → Lent s → log_at ≤ at → at + kept_row_bytes ≤ session_bytes → RowPut s (row_back s at) (change_at s at)
unfolding row_back
copied-back s at lent lo hi =
    let i : ℕ = number_at 1 s at in
    let from : at + 1 + row_bytes ≤ length s = omega (arith, lent.size) in
    ⊎_elim
    (λ l.
    rw (row_copied_lem s i (at + 1) (row_offset i) l, change-there s at i refl l)
    (row_put i (row_at s (at + 1)) lent l (copied_changes s (at + 1) (row_offset i) from lent.bytes)
    (copied-row s (at + 1) (row_offset i) from (omega (arith, lent.size)))))
    (λ l. rw (row-passed s i (at + 1) (row_offset i) l, change-none s at i refl l) (row_unput s no_change lent (omega arith)))
    (lt_or_le i row_count)

module _ (s : List ℕ) (lent : Lent s) (at : ℕ) (lo : log_at ≤ at) (room : at + entry_bytes ≤ session_bytes) where
  run : List ℕ
  run = run_back s at

  run-change : Changes s run book_at last_slot
  unfolding run run_back
  run-change = slots_changes s (run_at s at).start.0 (run_at s at).slots (mark_for (run_at s at).taken) lent.bytes

  lent_run : Lent run
  lent_run = lent_after lent run-change

  first_back : RowPut run (row_back run (changed_at at)) (change_at s (changed_at at))
  first_back =
      rw (← change-stays run-change (changed_at at) (inr (omega arith)))
      (copied-back run (changed_at at) lent_run (omega arith) (omega arith))

  second_back : RowPut (row_back run (changed_at at)) (entry_back s at) (change_at s (also_at at))
  unfolding entry_back run
  second_back =
      rw (← change-stays run-change (also_at at) (inr (omega arith)), ← change-stays first_back.changes (also_at at) (inr (omega arith)))
      (copied-back (row_back run (changed_at at)) (also_at at) (lent_after lent_run first_back.changes) (omega arith) (omega arith))

  -- only the book and the register change
  pub entry_back_changes : Changes s (entry_back s at) book_at (last_slot + row_bytes * row_count)
  unfolding run run_back entry_at
  entry_back_changes = put_changes s lent (entry_at s at) first_back second_back

  -- the view is the entry undone
  pub entry_back-view : view_of (entry_back s at) ≡ undone (entry_at s at) (view_of s)
  unfolding run run_back entry_at
  entry_back-view = put_view s lent (entry_at s at) first_back second_back
