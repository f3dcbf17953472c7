-- What is put in a session, kept of it and undone leaves its bytes tidy.
use Prim.Native.Nat.{ℕ, ◌+◌, ◌≤◌, ◌<◌}
use mathlib.Core.List.{List}
use mathlib.Core.Logic.{⊎_elim, ◌⊎◌, inl, inr}
use mathlib.Core.Path.{◌≡◌, sym, ap, ◌∙◌}
use native.Mathlib.Omega.{arith}
use lib.ListN.{get_or, get_or-eq_default}
use Rattle.numbers.specs.Numbers.{number_at, put_number}
use Rattle.numbers.proofs.FieldLaws.{lt_or_le}
use Rattle.replay.specs.Demand3.{depth}
use Rattle.rows.specs.Row.{row_bytes}
use Rattle.rules.specs.Effect.{mark_for, turned, marked}
use Rattle.rules.specs.declared.effect.Effect.{Effect}
use Rattle.rules.specs.declared.effect.Run.{Run}
use Rattle.store.specs.Layout.{book_at, log_at, row_offset, run_bytes, kept_row_bytes, entry_bytes, entry_offset, changed_at, also_at, session_bytes}
use Rattle.store.specs.Lent.{Lent}
use Rattle.store.specs.Stands.{book_of}
use Rattle.store.specs.Tidy.{TidyRow, Tidy}
use Rattle.store.proofs.BookLaws.{length-book, marked_below}
use Rattle.store.proofs.Frames.{Clear, Changes, number_changes, lent_after}
use Rattle.store.proofs.Stretches.{stretch_at}
use Rattle.store.proofs.TidyLaws.{tidy-same, tidy-stays, tidy-after}
use Rattle.store.proofs.ViewLaws.{entry-room}
use Rattle.kinds.specs.Kinds.{last_slot}
use Rattle.trains.specs.Sought.{row_count}
use Rattle.entries.specs.Copied.{row_copied}
use Rattle.entries.specs.Kept.{run_kept, row_kept, entry_kept}
use Rattle.entries.specs.Marks.{slots_put, run_marked}
use Rattle.entries.specs.Undone.{run_back, row_back, entry_back}
use Rattle.entries.proofs.CopyLaws.{copied_in, copied_changes, row_copied_lem, row-passed}
use Rattle.entries.proofs.EntryLaws.{run_kept_changes, row_kept_changes}
use Rattle.entries.proofs.MarkLaws.{mark-small, slots_changes, slots-book}

-- a session's bytes, and tidy
abbrev pub Neat : List ℕ → Type 0
Neat s = (Lent s) × (Tidy s)

-- ---- the book and a row of the register

marks-small : (s : List ℕ) → Lent s → Tidy s → (k : ℕ) → get_or (book_of s) k 0 < 2
marks-small s lent tidy k =
    ⊎_elim
    (λ l. rw (stretch_at s last_slot book_at k l) (omega (arith, tidy.book k l)))
    (λ l. rw (get_or-eq_default (book_of s) 0 {n = k} (omega (arith, length-book s (omega (arith, lent.size))))) (omega arith))
    (lt_or_le k last_slot)

pub run_neat : (s : List ℕ) (run : Run) → Neat s → Neat (run_marked s run)
run_neat s run (lent, tidy) =
    let mark : ℕ = mark_for run.taken in
    let t : List ℕ = slots_put s run.start.0 run.slots mark in
    let r = slots_changes s run.start.0 run.slots mark lent.bytes in
    let small : (i : ℕ) → i < last_slot → get_or t (book_at + i) 0 ≤ 1 =
    λ i l.
    let below : get_or (marked (book_of s) run.start.0 run.slots mark) i 0 < 2 =
    marked_below 2 (book_of s) run.start.0 run.slots mark (marks-small s lent tidy) (mark-small run.taken) i in
    rw
    (sym (stretch_at t last_slot book_at i l)
    ∙ ap (λ (b : List ℕ). get_or b i 0) (slots-book s run.start.0 run.slots mark lent.bytes (omega (arith, lent.size)) (omega (arith, mark-small run.taken))))
    (omega arith) in (
      lent_after lent r,
      tidy-after lent r tidy (λ i l. inl (inr (omega arith))) (λ p l. inl (inr (omega arith))) (λ p l. inl (inr (omega arith))) (λ i l. inr (small i l)),
    )

-- a row of the register made another that is tidy
pub row_neat : {s t : List ℕ} (i : ℕ) → i < row_count → Changes s t (row_offset i) row_bytes → TidyRow t (row_offset i) → Neat s → Neat t
row_neat {s} {t} i l r row (lent, tidy) = (
  lent_after lent r,
  tidy-after lent r tidy rows (λ p m. inl (inr (omega arith))) (λ p m. inl (inr (omega arith))) (λ k m. inl (inl (omega arith))),
)
  where
    rows : (j : ℕ) → j < row_count → Clear (row_offset j) row_bytes (row_offset i) row_bytes ⊎ TidyRow t (row_offset j)
    rows j m =
        ⊎_elim
        (λ a. inl (inl (omega arith)))
        (λ a. ⊎_elim (λ b. inl (inr (omega arith))) (λ b. let same : j ≡ i = omega arith in inr (rw same row)) (lt_or_le i j))
        (lt_or_le j i)

-- ---- rows copied

-- a tidy row, copied, is tidy
copied-tidy : (s : List ℕ) (from to : ℕ) → Lent s → from + row_bytes ≤ session_bytes → to + row_bytes ≤ session_bytes → (i : ℕ) → i < row_count
    → TidyRow s from → TidyRow (row_copied s i from to) to
copied-tidy s from to lent f g i l row =
    let r = copied_changes s from to (omega (arith, lent.size)) lent.bytes in
    rw (row_copied_lem s i from to l)
    (tidy-same s _ from to lent.bytes r.bytes (omega (arith, lent.size)) (omega (arith, lent.size, r.size))
    (copied_in s from to (omega (arith, lent.size)) (omega (arith, lent.size))) row)

-- from the log
row_back_neat : (s : List ℕ) (at : ℕ) → log_at ≤ at → at + kept_row_bytes ≤ session_bytes → TidyRow s (at + 1) → Neat s → Neat (row_back s at)
unfolding row_back
row_back_neat s at lo hi row (lent, tidy) =
    let i : ℕ = number_at 1 s at in
    ⊎_elim
    (λ l.
    let changes : Changes s (row_copied s i (at + 1) (row_offset i)) (row_offset i) row_bytes =
    rw (row_copied_lem s i (at + 1) (row_offset i) l) (copied_changes s (at + 1) (row_offset i) (omega (arith, lent.size)) lent.bytes) in
    row_neat i l changes (copied-tidy s (at + 1) (row_offset i) lent (omega arith) (omega arith) i l row) (lent, tidy))
    (λ l. rw (row-passed s i (at + 1) (row_offset i) l) (lent, tidy))
    (lt_or_le i row_count)

-- to the log: the row that is kept there is tidy
kept-tidy : (s : List ℕ) (i at : ℕ) → log_at ≤ at → at + kept_row_bytes ≤ session_bytes → TidyRow s (at + 1) → Neat s → TidyRow (row_kept s i at) (at + 1)
unfolding row_kept
kept-tidy s i at lo hi row (lent, tidy) =
    let r = number_changes 1 s at i lent.bytes in
    let lent' = lent_after lent r in
    ⊎_elim
    (λ l.
    copied-tidy (put_number 1 s at i) (row_offset i) (at + 1) lent' (omega arith) (omega arith) i l
    (tidy-stays lent r (row_offset i) (omega arith) (inl (omega arith)) (tidy.rows i l)))
    (λ l. rw (row-passed (put_number 1 s at i) i (row_offset i) (at + 1) l) (tidy-stays lent r (at + 1) (omega arith) (inr (omega arith)) row))
    (lt_or_le i row_count)

-- a kept row and the row of another kept row are the same, or have no byte in common
Kept : ℕ → ℕ → Type 0
Kept a at = (a ≡ at) ⊎ Clear (a + 1) row_bytes at kept_row_bytes

kept_neat : (s : List ℕ) (i at : ℕ) → i ≤ row_count → log_at ≤ at → at + kept_row_bytes ≤ session_bytes
    → ((p : ℕ) → p < depth → Kept (changed_at (entry_offset p)) at) → ((p : ℕ) → p < depth → Kept (also_at (entry_offset p)) at)
    → TidyRow s (at + 1) → Neat s → Neat (row_kept s i at)
unfolding Kept
kept_neat s i at h lo hi changed also row (lent, tidy) =
    let r = row_kept_changes s lent i at h lo hi in
    let here : (a : ℕ) → a ≡ at → TidyRow (row_kept s i at) (a + 1) = λ a e. rw e (kept-tidy s i at lo hi row (lent, tidy)) in (
      lent_after lent r,
      tidy-after lent r tidy
          (λ j l. inl (inl (omega arith)))
          (λ p l. ⊎_elim (λ e. inr (here (changed_at (entry_offset p)) e)) (λ c. inl c) (changed p l))
          (λ p l. ⊎_elim (λ e. inr (here (also_at (entry_offset p)) e)) (λ c. inl c) (also p l))
          (λ k l. inl (inl (omega arith))),
    )

-- kept rows of two entries
in_entries : (p q a at : ℕ) → entry_offset q ≤ a → a + kept_row_bytes ≤ entry_offset q + entry_bytes → entry_offset p ≤ at
    → at + kept_row_bytes ≤ entry_offset p + entry_bytes → (q ≡ p → Kept a at) → Kept a at
unfolding Kept
in_entries p q a at lo hi lo' hi' same =
    ⊎_elim
    (λ l. inr (inl (omega arith)))
    (λ l. ⊎_elim (λ m. inr (inr (omega arith))) (λ m. same (omega arith)) (lt_or_le p q))
    (lt_or_le q p)

-- what undoes an effect kept in a notch of the ring
pub entry_neat : (s : List ℕ) (effect : Effect) (p : ℕ) → effect.changed.row ≤ row_count → effect.also.row ≤ row_count → p < depth → Neat s
    → Neat (entry_kept s effect (entry_offset p))
unfolding entry_kept Kept
entry_neat s effect p hi hj l neat =
    let e : ℕ = entry_offset p in
    let room : e + entry_bytes ≤ session_bytes = entry-room p l in
    let first = run_neat' in
    let second =
    kept_neat (run_kept s (turned effect.run) e) effect.changed.row (changed_at e) hi (omega arith) (omega arith)
    (λ q m. in_entries p q (changed_at (entry_offset q)) (changed_at e) (omega arith) (omega arith) (omega arith) (omega arith) (λ same. inl (ap (λ (n : ℕ). changed_at (entry_offset n)) same)))
    (λ q m. in_entries p q (also_at (entry_offset q)) (changed_at e) (omega arith) (omega arith) (omega arith) (omega arith) (λ same. inr (inr (omega arith))))
    (first.1.changed p l) first in
    kept_neat (row_kept (run_kept s (turned effect.run) e) effect.changed.row (changed_at e)) effect.also.row (also_at e) hj (omega arith) (omega arith)
    (λ q m. in_entries p q (changed_at (entry_offset q)) (also_at e) (omega arith) (omega arith) (omega arith) (omega arith) (λ same. inr (inl (omega arith))))
    (λ q m. in_entries p q (also_at (entry_offset q)) (also_at e) (omega arith) (omega arith) (omega arith) (omega arith) (λ same. inl (ap (λ (n : ℕ). also_at (entry_offset n)) same)))
    (second.1.also p l) second
  where
    clear : (q a : ℕ) → entry_offset q + run_bytes ≤ a → a + row_bytes ≤ entry_offset q + entry_bytes → Clear a row_bytes (entry_offset p) run_bytes
    clear q a lo hi = ⊎_elim (λ l. inl (omega arith)) (λ l. inr (omega arith)) (lt_or_le q p)

    run_neat' : Neat (run_kept s (turned effect.run) (entry_offset p))
    run_neat' =
        let r = run_kept_changes s neat.0 (turned effect.run) (entry_offset p) in (
          lent_after neat.0 r,
          tidy-after neat.0 r neat.1
              (λ j l. inl (inl (omega arith)))
              (λ q l. inl (clear q (changed_at (entry_offset q) + 1) (omega arith) (omega arith)))
              (λ q l. inl (clear q (also_at (entry_offset q) + 1) (omega arith) (omega arith)))
              (λ k l. inl (inl (omega arith))),
        )

-- and the entry there undone
pub back_neat : (s : List ℕ) (p : ℕ) → p < depth → Neat s → Neat (entry_back s (entry_offset p))
unfolding entry_back run_back
back_neat s p l neat =
    let e : ℕ = entry_offset p in
    let room : e + entry_bytes ≤ session_bytes = entry-room p l in
    let run = run_neat s _ neat in
    let row = row_back_neat (run_back s e) (changed_at e) (omega arith) (omega arith) (run.1.changed p l) run in
    row_back_neat (row_back (run_back s e) (changed_at e)) (also_at e) (omega arith) (omega arith) (row.1.also p l) row
