-- Laws of an entry in the bytes: one that is kept reads as what was saved of the view, and no change of other bytes changes it.
use Prim.Native.Nat.{ℕ, ◌+◌, ◌≤◌, ◌<◌}
use mathlib.Core.Bool.{Bool, true, false, cond, not}
use mathlib.Core.List.{List}
use mathlib.Core.Logic.{⊎_elim, inl, inr}
use mathlib.Core.Path.{◌≡◌, refl, sym, ap, ◌∙◌}
use native.Mathlib.Omega.{arith}
use borrow.Author.Tests.{lt-ltb, le-ltb}
use lib.Dec.{eqb, ltb}
use lib.ListN.{length}
use Rattle.numbers.specs.Numbers.{number_at, put_number}
use Rattle.numbers.proofs.FieldLaws.{lt_or_le}
use Rattle.rows.specs.Row.{row_bytes, row_at}
use Rattle.rules.specs.Effect.{mark_for, turned, change, no_change}
use Rattle.rules.specs.View.{View, row_in}
use Rattle.rules.specs.declared.effect.Effect.{Effect}
use Rattle.rules.specs.declared.effect.Run.{Run}
use Rattle.store.specs.Layout.{log_at, row_offset, run_bytes, kept_row_bytes, entry_bytes, slots_at, mark_at, changed_at, also_at, session_bytes}
use Rattle.store.specs.Lent.{Lent}
use Rattle.store.specs.Stands.{view_of}
use Rattle.store.proofs.Frames.{Clear, Changes, unchanged, widen, next, number_changes, number-stays, row_stays, lent_after}
use Rattle.store.proofs.RegisterLaws.{view-stays}
use Rattle.store.proofs.ViewLaws.{view-row, view_row_past}
use Rattle.trains.specs.Sought.{row_count}
use Rattle.entries.specs.Copied.{row_copied}
use Rattle.entries.specs.Entry.{row_now, saved, taken_at, change_at, entry_at}
use Rattle.entries.specs.Kept.{run_kept, row_kept, entry_kept}
use Rattle.entries.proofs.BoundsLaws.{InBounds}
use Rattle.entries.proofs.CopyLaws.{copied_changes, copied-row, row_copied_lem, row-passed}
use Rattle.entries.proofs.MarkLaws.{mark-small}
use Rattle.entries.proofs.ThreeLaws.{number-back, three_put, three_changes, first_back, second_back, third_back}

-- ---- what stays

module _ {s t : List ℕ} {at n : ℕ} (r : Changes s t at n) where
  -- a kept row
  pub change-stays : (i : ℕ) → Clear i kept_row_bytes at n → change_at t i ≡ change_at s i
  unfolding change_at
  change-stays i h =
      let number : number_at 1 t i ≡ number_at 1 s i = number-stays r 1 i (⊎_elim (λ a. inl (omega arith)) (λ a. inr (omega arith)) h) in
      let row : row_at t (i + 1) ≡ row_at s (i + 1) = row_stays r (i + 1) (⊎_elim (λ a. inl (omega arith)) (λ a. inr (omega arith)) h) in
      λ k. cond (ltb (number k) row_count) (change (number k) (row k)) no_change

  -- a number of the run
  run-stays : (e i : ℕ) → Clear e run_bytes at n → e ≤ i → i < e + run_bytes → number_at 1 t i ≡ number_at 1 s i
  run-stays e i h a b = number-stays r 1 i (⊎_elim (λ x. inl (omega arith)) (λ x. inr (omega arith)) h)

  -- an entry
  pub entry-stays : (e : ℕ) → Clear e entry_bytes at n → entry_at t e ≡ entry_at s e
  unfolding entry_at
  entry-stays e h =
      let run : Clear e run_bytes at n = ⊎_elim (λ a. inl (omega arith)) (λ a. inr (omega arith)) h in
      let start = run-stays e e run (omega arith) (omega arith) in
      let slots = run-stays e (slots_at e) run (omega arith) (omega arith) in
      let mark = run-stays e (mark_at e) run (omega arith) (omega arith) in
      let changed = change-stays (changed_at e) (⊎_elim (λ a. inl (omega arith)) (λ a. inr (omega arith)) h) in
      let also = change-stays (also_at e) (⊎_elim (λ a. inl (omega arith)) (λ a. inr (omega arith)) h) in
      λ k. record { run = record { start = record { 0 = start k }; slots = slots k; taken = not (eqb (mark k) 0) }; changed = changed k; also = also k }

-- ---- a row kept

-- a kept row reads as its number and the row
pub change-there : (s : List ℕ) (at i : ℕ) → number_at 1 s at ≡ i → i < row_count → change_at s at ≡ change i (row_at s (at + 1))
unfolding change_at
change-there s at i e h = rw (e, lt-ltb i row_count h)

-- and no row as none
pub change-none : (s : List ℕ) (at i : ℕ) → number_at 1 s at ≡ i → row_count ≤ i → change_at s at ≡ no_change
unfolding change_at
change-none s at i e h = rw (e, le-ltb i row_count h)

module _ (s : List ℕ) (lent : Lent s) (i at : ℕ) (h : i ≤ row_count) (lo : log_at ≤ at) (hi : at + kept_row_bytes ≤ session_bytes) where
  numbered : List ℕ
  numbered = put_number 1 s at i

  numbered_changes : Changes s numbered at 1
  unfolding numbered
  numbered_changes = number_changes 1 s at i lent.bytes

  size : length numbered ≡ session_bytes
  size = numbered_changes.size ∙ lent.size

  kept_is : row_kept s i at ≡ row_copied numbered i (row_offset i) (at + 1)
  unfolding row_kept numbered
  kept_is = refl

  copy_changes : Changes numbered (row_copied numbered i (row_offset i) (at + 1)) (at + 1) row_bytes
  copy_changes =
      ⊎_elim
      (λ l. rw (row_copied_lem numbered i (row_offset i) (at + 1) l) (copied_changes numbered (row_offset i) (at + 1) (omega (arith, size)) numbered_changes.bytes))
      (λ l. rw (row-passed numbered i (row_offset i) (at + 1) l) (unchanged numbered_changes.bytes))
      (lt_or_le i row_count)

  -- only those bytes change
  pub row_kept_changes : Changes s (row_kept s i at) at kept_row_bytes
  row_kept_changes =
      rw kept_is
      (next (widen numbered_changes at kept_row_bytes (omega arith) (omega arith)) (widen copy_changes at kept_row_bytes (omega arith) (omega arith)))

  number-kept : number_at 1 (row_kept s i at) at ≡ i
  unfolding numbered
  number-kept = rw kept_is (number-stays copy_changes 1 at (inl (omega arith)) ∙ number-back 1 s at i (omega (arith, lent.size)) (omega arith))

  train-kept : i < row_count → row_at (row_kept s i at) (at + 1) ≡ row_in (view_of s) i
  train-kept l =
      ap (λ (t : List ℕ). row_at t (at + 1)) (kept_is ∙ row_copied_lem numbered i (row_offset i) (at + 1) l)
      ∙ copied-row numbered (row_offset i) (at + 1) (omega (arith, size)) (omega (arith, size))
      ∙ row_stays numbered_changes (row_offset i) (inl (omega arith))
      ∙ sym (view-row s i l)

  -- and they read as the row
  pub row_kept-back : change_at (row_kept s i at) at ≡ row_now (view_of s) i
  row_kept-back =
      ⊎_elim
      (λ l. change-there (row_kept s i at) at i number-kept l ∙ ap (change i) (train-kept l))
      (λ l.
      let none : row_count ≡ i = omega arith in
      change-none (row_kept s i at) at i number-kept l ∙ (λ k. change (none k) (sym (view_row_past s i l) k)))
      (lt_or_le i row_count)

-- ---- a run kept

mark_tells : (taken : Bool) → not (eqb (mark_for taken) 0) ≡ taken
unfolding mark_for
mark_tells true = refl
mark_tells false = refl

module _ (s : List ℕ) (lent : Lent s) (run : Run) (at : ℕ) where
  run_is : run_kept s run at ≡ three_put 1 s at (slots_at at) (mark_at at) run.start.0 run.slots (mark_for run.taken)
  unfolding run_kept three_put
  run_is = refl

  -- only those bytes change
  pub run_kept_changes : Changes s (run_kept s run at) at run_bytes
  run_kept_changes = rw run_is (three_changes 1 s lent.bytes at (slots_at at) (mark_at at) run.start.0 run.slots (mark_for run.taken) refl (omega arith))

  -- and they read as the run
  module _ (room : at + run_bytes ≤ session_bytes) where
    start-kept : run.start.0 < 256 → number_at 1 (run_kept s run at) at ≡ run.start.0
    start-kept l =
        rw run_is
        (first_back 1 s lent.bytes at (slots_at at) (mark_at at) run.start.0 run.slots (mark_for run.taken) refl (omega arith) (omega (arith, lent.size)) l)

    slots_kept : run.slots < 256 → number_at 1 (run_kept s run at) (slots_at at) ≡ run.slots
    slots_kept l =
        rw run_is
        (second_back 1 s lent.bytes at (slots_at at) (mark_at at) run.start.0 run.slots (mark_for run.taken) refl (omega arith) (omega (arith, lent.size)) l)

    taken-kept : taken_at (run_kept s run at) at ≡ run.taken
    taken-kept =
        let mark : number_at 1 (run_kept s run at) (mark_at at) ≡ mark_for run.taken =
        rw run_is
        (third_back 1 s lent.bytes at (slots_at at) (mark_at at) run.start.0 run.slots (mark_for run.taken) refl (omega arith) (omega (arith, lent.size)) (omega (arith, mark-small run.taken))) in
        ap (λ (n : ℕ). not (eqb n 0)) mark ∙ mark_tells run.taken

-- ---- an entry kept

module _ (s : List ℕ) (lent : Lent s) (e : Effect) (bounds : InBounds e) (at : ℕ) (lo : log_at ≤ at) (room : at + entry_bytes ≤ session_bytes) where
  i : ℕ
  i = e.changed.row

  j : ℕ
  j = e.also.row

  with-run : List ℕ
  with-run = run_kept s (turned e.run) at

  with-changed : List ℕ
  with-changed = row_kept with-run i (changed_at at)

  with-also : List ℕ
  with-also = row_kept with-changed j (also_at at)

  run-change : Changes s with-run at run_bytes
  unfolding with-run
  run-change = run_kept_changes s lent (turned e.run) at

  lent_run : Lent with-run
  lent_run = lent_after lent run-change

  hi : i ≤ row_count
  unfolding i
  hi = omega (arith, bounds.changed)

  hj : j ≤ row_count
  unfolding j
  hj = bounds.also

  changed-change : Changes with-run with-changed (changed_at at) kept_row_bytes
  unfolding with-changed
  changed-change = row_kept_changes with-run lent_run i (changed_at at) hi (omega arith) (omega arith)

  lent_changed : Lent with-changed
  lent_changed = lent_after lent_run changed-change

  also-change : Changes with-changed with-also (also_at at) kept_row_bytes
  unfolding with-also
  also-change = row_kept_changes with-changed lent_changed j (also_at at) hj (omega arith) (omega arith)

  entry-is : entry_kept s e at ≡ with-also
  unfolding entry_kept with-also with-changed with-run i j
  entry-is = refl

  rows-change : Changes with-run with-also (changed_at at) (kept_row_bytes + kept_row_bytes)
  rows-change =
      next (widen changed-change (changed_at at) (kept_row_bytes + kept_row_bytes) (omega arith) (omega arith))
      (widen also-change (changed_at at) (kept_row_bytes + kept_row_bytes) (omega arith) (omega arith))

  -- only the entry's bytes change
  pub entry_kept_changes : Changes s (entry_kept s e at) at entry_bytes
  entry_kept_changes =
      rw entry-is
      (next (widen run-change at entry_bytes (omega arith) (omega arith)) (widen rows-change at entry_bytes (omega arith) (omega arith)))

  run-view : view_of with-run ≡ view_of s
  run-view = view-stays run-change (omega (arith, lent.size)) (inl (omega arith))

  changed-view : view_of with-changed ≡ view_of s
  changed-view = view-stays changed-change (omega (arith, lent_run.size)) (inl (omega arith)) ∙ run-view

  changed-kept : change_at with-also (changed_at at) ≡ row_now (view_of s) i
  unfolding with-changed
  changed-kept =
      change-stays also-change (changed_at at) (inl (omega arith))
      ∙ row_kept-back with-run lent_run i (changed_at at) hi (omega arith) (omega arith)
      ∙ ap (λ (v : View). row_now v i) run-view

  also_kept : change_at with-also (also_at at) ≡ row_now (view_of s) j
  unfolding with-also
  also_kept =
      row_kept-back with-changed lent_changed j (also_at at) hj (omega arith) (omega arith)
      ∙ ap (λ (v : View). row_now v j) changed-view

  there : (k : ℕ) → at ≤ k → k < at + run_bytes → number_at 1 with-also k ≡ number_at 1 with-run k
  there k a b = number-stays rows-change 1 k (inl (omega arith))

  -- and they read as what was saved of the view
  pub entry_kept-back : entry_at (entry_kept s e at) at ≡ saved (view_of s) e
  unfolding entry_at saved with-run i j
  entry_kept-back =
      let start = there at (omega arith) (omega arith) ∙ start-kept s lent (turned e.run) at (omega arith) bounds.start in
      let slots = there (slots_at at) (omega arith) (omega arith) ∙ slots_kept s lent (turned e.run) at (omega arith) bounds.slots in
      let taken =
      ap (λ (n : ℕ). not (eqb n 0)) (there (mark_at at) (omega arith) (omega arith))
      ∙ taken-kept s lent (turned e.run) at (omega arith) in
      rw entry-is
      (λ k. record { run = record { start = record { 0 = start k }; slots = slots k; taken = taken k }; changed = changed-kept k; also = also_kept k })
