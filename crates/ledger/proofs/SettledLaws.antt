-- Laws of an effect taken in: the view is the effect's on the view before, the counter is the one given, and the log has what was saved on top.
use Prim.Native.Nat.{ℕ, suc, ◌+◌, ◌*◌, ◌%◌, ◌^◌, ◌≤◌, ◌<◌, min}
use mathlib.Core.List.{List, ◌∷◌}
use mathlib.Core.Logic.{⊎_elim, inl, inr, ◌≢◌}
use mathlib.Core.Path.{◌≡◌, refl, ap, ◌∙◌}
use native.Mathlib.Nat.{mod-eq_of_lt}
use native.Mathlib.Omega.{arith}
use borrow.Author.Tests.{lt-ltb, le-ltb}
use lib.ListN.{length, take}
use Rattle.numbers.specs.Numbers.{number_at}
use Rattle.numbers.proofs.FieldLaws.{lt_or_le}
use Rattle.replay.specs.Demand3.{depth}
use Rattle.ring.specs.Ring.{after, read_back}
use Rattle.ring.proofs.Rings.{after_in, ring_push}
use Rattle.rows.specs.Row.{row_bytes, put_row}
use Rattle.rows.proofs.FitLaws.{Fits}
use Rattle.rows.proofs.RowLaws.{row_back_lem}
use Rattle.rules.specs.Effect.{applied}
use Rattle.rules.specs.View.{View}
use Rattle.rules.specs.declared.effect.Change.{Change}
use Rattle.rules.specs.declared.effect.Effect.{Effect}
use Rattle.store.specs.Layout.{word_bytes, counter_at, kept_at, head_at, book_at, row_offset, entry_bytes, entry_offset}
use Rattle.store.specs.Lent.{Lent}
use Rattle.store.specs.Stands.{view_of, counter_of, kept_of, head_of}
use Rattle.store.proofs.Frames.{Changes, number-stays, row_changes, lent_after}
use Rattle.store.proofs.RegisterLaws.{view-stays}
use Rattle.store.proofs.ViewLaws.{head_in, kept_in_lem, entry-room}
use Rattle.kinds.specs.Kinds.{last_slot}
use Rattle.trains.specs.Sought.{row_count}
use Rattle.kinds.specs.declared.Ticket.{Ticket}
use Rattle.entries.specs.Entry.{saved}
use Rattle.entries.specs.Kept.{entry_kept}
use Rattle.entries.proofs.BoundsLaws.{InBounds}
use Rattle.entries.specs.Marks.{run_marked}
use Rattle.entries.proofs.EntryLaws.{entry-stays, entry_kept_changes, entry_kept-back}
use Rattle.entries.proofs.PutLaws.{RowPut, row_put, row_unput, lent_booked, put_changes, put_view}
use Rattle.ledger.specs.Log.{entry_in, log_of, headed}
use Rattle.ledger.specs.Settled.{change_put, pushed, effect_put, settled}
use Rattle.ledger.proofs.HeaderLaws.{word_small, headed_changes, headed-counter, headed-kept, headed-head}
use Rattle.ledger.proofs.LogLaws.{entries_clear}

-- an effect that fits the bytes: it can be taken in, and its trains fit the rows that they are put into
pub record EffectFits (e : Effect) : Type 0 where
  pub bounds : InBounds e
  pub changed : Fits e.changed.train
  pub also : e.also.row < row_count → Fits e.also.train

-- ---- a row written

pub change-put : (s : List ℕ) (c : Change) → c.row < row_count → change_put s c ≡ put_row s (row_offset c.row) c.train
unfolding change_put
change-put s c l = rw (lt-ltb c.row row_count l)

pub change-passed : (s : List ℕ) (c : Change) → row_count ≤ c.row → change_put s c ≡ s
unfolding change_put
change-passed s c l = rw (le-ltb c.row row_count l)

written : (s : List ℕ) (c : Change) → Lent s → (c.row < row_count → Fits c.train) → RowPut s (change_put s c) c
written s c lent f =
    ⊎_elim
    (λ l.
    rw (change-put s c l)
    (row_put c.row c.train lent l (row_changes s (row_offset c.row) c.train lent.bytes)
    (row_back_lem s (row_offset c.row) c.train (f l) (omega (arith, lent.size)))))
    (λ l. rw (change-passed s c l) (row_unput s c lent l))
    (lt_or_le c.row row_count)

-- ---- the entry pushed

module _ (s : List ℕ) (lent : Lent s) (counter : Ticket) (e : Effect) (bounds : InBounds e) where
  logged : List ℕ
  logged = pushed s counter e

  p : ℕ
  p = head_of s

  p_in : p < depth
  unfolding p
  p_in = head_in s

  noted : List ℕ
  noted = entry_kept s e (entry_offset p)

  noted_change : Changes s noted (entry_offset p) entry_bytes
  unfolding noted
  noted_change = entry_kept_changes s lent e bounds (entry_offset p) (omega arith) (entry-room p p_in)

  lent_noted : Lent noted
  lent_noted = lent_after lent noted_change

  kept : ℕ
  kept = min depth (suc (kept_of s))

  head : ℕ
  head = after depth p

  head_below : head < depth
  unfolding head
  head_below = after_in depth p p_in

  pushed-is : logged ≡ headed noted counter kept head
  unfolding logged pushed noted kept head p
  pushed-is = refl

  header_change : Changes noted (headed noted counter kept head) counter_at book_at
  header_change = headed_changes noted lent_noted.bytes counter kept head

  pushed_lent : Lent logged
  pushed_lent = rw pushed-is (lent_after lent_noted header_change)

  -- the view stays
  pushed-view : view_of logged ≡ view_of s
  pushed-view =
      rw pushed-is
      (view-stays header_change (omega (arith, lent_noted.size)) (inr (omega arith))
      ∙ view-stays noted_change (omega (arith, lent.size)) (inl (omega arith)))

  header_room : book_at ≤ length noted
  header_room = omega (arith, lent_noted.size)

  pushed-counter : counter.0 < 2 ^ 32 → counter_of logged ≡ counter
  pushed-counter l = rw pushed-is (headed-counter noted lent_noted.bytes counter kept head header_room l)

  pushed-kept : kept_of logged ≡ min depth (suc (kept_of s))
  unfolding kept
  pushed-kept =
      let n : number_at word_bytes logged kept_at ≡ kept =
      rw pushed-is (headed-kept noted lent_noted.bytes counter kept head header_room (word_small kept (omega arith))) in
      omega arith

  pushed-head : head_of logged ≡ after depth (head_of s)
  unfolding head p
  pushed-head =
      ap (λ (n : ℕ). n % depth) (rw pushed-is (headed-head noted lent_noted.bytes counter kept head header_room (word_small head (omega (arith, head_below)))))
      ∙ mod-eq_of_lt head_below

  -- the entry reads as what was saved
  pushed_new : entry_in logged (head_of s) ≡ saved (view_of s) e
  unfolding noted p
  pushed_new =
      rw pushed-is
      (entry-stays header_change (entry_offset p) (inr (omega arith)) ∙ entry_kept-back s lent e bounds (entry_offset p) (omega arith) (entry-room p p_in))

  -- and every other stays
  pushed-others : (q : ℕ) → q ≢ head_of s → entry_in logged q ≡ entry_in s q
  unfolding p
  pushed-others q ne =
      rw pushed-is
      (entry-stays header_change (entry_offset q) (inr (omega arith)) ∙ entry-stays noted_change (entry_offset q) (entries_clear q p ne))

-- ---- the effect taken in

module _ (s : List ℕ) (lent : Lent s) (counter : Ticket) (e : Effect) (fits : EffectFits e) where
  pushes : List ℕ
  pushes = logged s lent counter e fits.bounds

  lent_pushes : Lent pushes
  unfolding pushes
  lent_pushes = pushed_lent s lent counter e fits.bounds

  marks : List ℕ
  marks = run_marked pushes e.run

  lent_marks : Lent marks
  unfolding marks
  lent_marks = lent_booked pushes lent_pushes e

  first-put : RowPut marks (change_put marks e.changed) e.changed
  first-put = written marks e.changed lent_marks (λ l. fits.changed)

  second-put : RowPut (change_put marks e.changed) (settled s counter e) e.also
  unfolding settled effect_put marks pushes logged
  second-put = written (change_put marks e.changed) e.also (lent_after lent_marks first-put.changes) fits.also

  -- all that comes after the push is between the header and the log
  after_push : Changes pushes (settled s counter e) book_at (last_slot + row_bytes * row_count)
  unfolding marks
  after_push = put_changes pushes lent_pushes e first-put second-put

  pub settled_lent : Lent (settled s counter e)
  settled_lent = lent_after lent_pushes after_push

  -- the view is the effect's on the view before
  pub settled-view : view_of (settled s counter e) ≡ applied (view_of s) e
  unfolding marks pushes
  settled-view =
      put_view pushes lent_pushes e first-put second-put
      ∙ ap (λ (v : View). applied v e) (pushed-view s lent counter e fits.bounds)

  -- the counter is the one given
  pub settled-counter : counter.0 < 2 ^ 32 → counter_of (settled s counter e) ≡ counter
  unfolding pushes
  settled-counter l =
      let number : number_at word_bytes (settled s counter e) counter_at ≡ number_at word_bytes pushes counter_at =
      number-stays after_push word_bytes counter_at (inl (omega arith)) in
      (λ k. record { 0 = number k }) ∙ pushed-counter s lent counter e fits.bounds l

  -- one more entry is kept, up to the ring's notches
  pub settled-kept : kept_of (settled s counter e) ≡ min depth (suc (kept_of s))
  unfolding pushes
  settled-kept =
      ap (min depth) (number-stays after_push word_bytes kept_at (inl (omega arith))) ∙ pushed-kept s lent counter e fits.bounds

  settled-head : head_of (settled s counter e) ≡ after depth (head_of s)
  unfolding pushes
  settled-head =
      ap (λ (n : ℕ). n % depth) (number-stays after_push word_bytes head_at (inl (omega arith))) ∙ pushed-head s lent counter e fits.bounds

  entry-there : (q : ℕ) → entry_in (settled s counter e) q ≡ entry_in pushes q
  entry-there q = entry-stays after_push (entry_offset q) (inr (omega arith))

  new_entry : entry_in (settled s counter e) (head_of s) ≡ saved (view_of s) e
  unfolding pushes
  new_entry = entry-there (head_of s) ∙ pushed_new s lent counter e fits.bounds

  old_entry : (q : ℕ) → q < depth → q ≢ head_of s → entry_in (settled s counter e) q ≡ entry_in s q
  unfolding pushes
  old_entry q l ne = entry-there q ∙ pushed-others s lent counter e fits.bounds q ne

  -- what was saved of the view goes on top of the log, and the oldest of 129 drops out
  pub settled-log : log_of (settled s counter e) ≡ take depth (saved (view_of s) e ∷ log_of s)
  settled-log =
      (λ k. read_back depth (entry_in (settled s counter e)) (settled-head k) (settled-kept k))
      ∙ ring_push depth (entry_in s) (entry_in (settled s counter e)) (saved (view_of s) e) (head_of s) (kept_of s) (head_in s) (kept_in_lem s) new_entry old_entry
