-- An accepted operation leads from a sound view to a sound one, and its marks can be undone exactly.
use mathlib.Core.Path.{◌≡◌, refl, sym, ◌∙◌, subst}
use mathlib.Core.Bool.{Bool, true, not, true≢false}
use mathlib.Core.List.{List}
use Prim.Native.Nat.{ℕ, ◌≤◌, ◌<◌}
use native.Mathlib.Omega.{arith}
use lib.ListN.{length, length-set}
use lib.Seq.{get_or-set_other}
use Rattle.kinds.specs.Kinds.{last_slot}
use Rattle.trains.specs.Record.{blank_train, fresh_train, is_empty}
use Rattle.trains.specs.Sought.{row_count}
use Rattle.kinds.specs.declared.Slot.{Slot}
use Rattle.kinds.specs.declared.Ticket.{Ticket}
use Rattle.trains.specs.declared.record.Train.{Train}
use Rattle.trains.proofs.ChangeLaws.{SameTrain}
use Rattle.rules.specs.Effect.{mark_for, marked, row_and_run, applied}
use Rattle.rules.specs.Named.{named_in}
use Rattle.rules.specs.Raising.{raised}
use Rattle.rules.specs.Registering.{granted, released}
use Rattle.rules.specs.Rules.{Op, request, release, on, sos, ground_of, done_by}
use Rattle.rules.specs.Slots.{slot_of, slots_for}
use Rattle.rules.specs.View.{View, row_in, mark_of}
use Rattle.rules.specs.declared.effect.Effect.{Effect}
use Rattle.rules.specs.declared.settings.Settings.{Settings}
use Rattle.order.specs.Sound.{Live, InBook, InRun, Has, ShareSlot, Sound}
use Rattle.order.proofs.Facts.{Free, requests, row_for, run_for, names, raises}
use Rattle.order.proofs.AfterLaws.{after_op, live-there}
use Rattle.order.proofs.DeedLaws.{deed_same, share-same}
use Rattle.order.proofs.MarkLaws.{marked-length, marked_outside, marked-inside}
use Rattle.order.proofs.RowLaws.{set_each, row_set, no_two_set}

-- the same train is live, and has the same slots
pub live_same : {u t : Train} → SameTrain u t → Live u → Live t
live_same e l = rw (← e.loco) l

pub has_same : {u t : Train} {slot : ℕ} → SameTrain u t → Has u slot → Has t slot
has_same e h = record { book = h.book; run = rw (← e.start, ← e.slots) h.run }

-- ---- one row changed

module _ (v : View) (i : ℕ) (u : Train) (sound : Sound v) (within : i < row_count) where
  row-there : i < length v.rows
  row-there = omega (arith, sound.rows)

  -- where the changed row's slots are marked, those of the others still are, and it shares none with them
  sound-set : (book : List ℕ) → length book ≡ last_slot
      → ((slot : ℕ) → Live u → Has u slot → mark_of book (slot_of slot) ≡ 1)
      → ((k : ℕ) → (k ≡ i → ⊥) → (slot : ℕ) → Live (row_in v k) → Has (row_in v k) slot → mark_of book (slot_of slot) ≡ 1)
      → ((k : ℕ) → (k ≡ i → ⊥) → Live u → Live (row_in v k) → ShareSlot u (row_in v k) → ⊥)
      → Sound (row_set v i u book)
  sound-set book l mine others alone =
      record {
        rows = length-set v.rows i u ∙ sound.rows;
        book = l;
        marked = set_each (λ (k : ℕ) (t : Train). (slot : ℕ) → Live t → Has t slot → mark_of book (slot_of slot) ≡ 1) blank_train v.rows i u row-there mine others;
        apart = no_two_set Live ShareSlot (λ a b s. (s.0, s.2, s.1)) blank_train v.rows i u row-there alone sound.apart;
      }

  -- the same train in the same slots
  pub sound-same : SameTrain u (row_in v i) → Sound (row_set v i u v.book)
  sound-same e =
      sound-set v.book sound.book (λ slot l h. sound.marked i slot (live_same e l) (has_same e h))
      (λ k n slot. sound.marked k slot) (λ k n l m s. n (sound.apart k i m (live_same e l) (s.0, s.2, has_same e s.1)))

  -- a train in an empty row, and in a free run
  pub sound-taken : ((slot : ℕ) → InRun u.start.0 u.slots slot → Free v.book slot) → Sound (row_set v i u (marked v.book u.start.0 u.slots 1))
  sound-taken free =
      sound-set (marked v.book u.start.0 u.slots 1) (marked-length v.book u.start.0 u.slots 1 ∙ sound.book)
      (λ slot l h. marked-inside v.book u.start.0 u.slots 1 slot sound.book h.book h.run)
      (λ k n slot l h.
      let was = sound.marked k slot l h in
      marked_outside v.book u.start.0 u.slots 1 slot h.book (λ r. omega (arith, was, (free slot r).mark)) ∙ was)
      (λ k n l m s. omega (arith, sound.marked k s.0 m s.2, (free s.0 s.1.run).mark))

  -- no train any more, and its run free
  pub sound-freed : Live (row_in v i) → is_empty u ≡ true → Sound (row_set v i u (marked v.book (row_in v i).start.0 (row_in v i).slots 0))
  sound-freed live gone =
      sound-set (marked v.book (row_in v i).start.0 (row_in v i).slots 0) (marked-length v.book (row_in v i).start.0 (row_in v i).slots 0 ∙ sound.book)
      (λ slot l h. absurd (true≢false (sym gone ∙ l)))
      (λ k n slot l h.
      marked_outside v.book (row_in v i).start.0 (row_in v i).slots 0 slot h.book
      (λ r. n (sound.apart k i l live (slot, h, record { book = h.book; run = r })))
      ∙ sound.marked k slot l h)
      (λ k n l m s. true≢false (sym gone ∙ l))

-- two rows changed, one after the other, where nothing holds of a row but of itself
pub row_other : (v : View) (i j : ℕ) (u : Train) → (i ≡ j → ⊥) → row_in (row_set v i u v.book) j ≡ row_in v j
row_other v i j u n = get_or-set_other v.rows i j u blank_train (λ e. n (sym e))

sound_both : (v : View) (i j : ℕ) (a b : Train) → Sound v → i < row_count → j < row_count → (i ≡ j → ⊥) → SameTrain a (row_in v i) → SameTrain b (row_in v j)
    → Sound (row_set (row_set v i a v.book) j b v.book)
sound_both v i j a b s h k n p q =
    sound-same (row_set v i a v.book) j b (sound-same v i a s h p) k (subst (SameTrain b) (sym (row_other v i j a n)) q)

-- ---- accepted operations

-- AN ACCEPTED OPERATION LEAVES A SOUND VIEW SOUND, whatever the ticket
pub sound-kept : (s : Settings) (o : Op) (c t : Ticket) (v : View) → Sound v → ground_of s o c v ≡ 0 → Sound (applied v (done_by s o c t v).effect)
sound-kept s o c t v h e =
    after_op (λ (d : Ticket) (w : View). Sound w) s o c t v h.rows
    (record {
      grant = λ loco bytes f. sound-taken v (row_for v) (fresh_train loco t (run_for s.carries bytes v) (slots_for s.carries bytes)) h f.row f.run;
      release = λ i l live. sound-freed v i blank_train h l live refl;
      deed = λ i l live d. sound-same v i _ h l (deed_same d (row_in v i));
      sos = λ grid i j l live m also n. sound_both v i j _ _ h l m n (share-same _ _ (row_in v i)) (share-same _ _ (row_in v j));
    }) e

-- the run that is marked had the other mark, so that undoing is exact
pub run-held : (s : Settings) (o : Op) (c t : Ticket) (v : View) → Sound v → ground_of s o c v ≡ 0
    → (slot : ℕ) → InBook slot → InRun (done_by s o c t v).effect.run.start.0 (done_by s o c t v).effect.run.slots slot
    → mark_of v.book (slot_of slot) ≡ mark_for (not (done_by s o c t v).effect.run.taken)
unfolding ground_of done_by granted released raised mark_for
run-held s (request loco bytes) c t v h e slot b r = ((requests s.carries loco bytes c v e).run slot r).mark
run-held s (release loco ticket) c t v h e slot b r =
    let f = (names loco ticket v 0 e).0 in
    h.marked (named_in loco ticket v).row slot (live-there f) (record { book = b; run = rw f.train at r })
run-held s (on loco ticket deed) c t v h e slot b r = absurd (omega arith)
run-held s (sos loco2 ticket2 loco1 ticket1 grid) c t v h e slot b r = absurd (omega arith)

-- the rows of an effect: one of the 24, and another one or none
pub record RowsWithin (e : Effect) : Type 0 where
  pub changed : e.changed.row < row_count
  pub also : e.also.row ≤ row_count
  pub apart : e.changed.row ≡ e.also.row → ⊥

one_within : (row : ℕ) (t : Train) (start : Slot) (n : ℕ) (taken : Bool) → row < row_count → RowsWithin (row_and_run row t start n taken)
one_within row t start n taken h = record { changed = h; also = omega arith; apart = λ e. omega arith }

pub rows_within : (s : Settings) (o : Op) (c t : Ticket) (v : View) → ground_of s o c v ≡ 0 → RowsWithin (done_by s o c t v).effect
unfolding ground_of done_by granted released raised
rows_within s (request loco bytes) c t v e = one_within _ _ _ _ _ (requests s.carries loco bytes c v e).row
rows_within s (release loco ticket) c t v e = one_within _ _ _ _ _ (names loco ticket v 0 e).0.row
rows_within s (on loco ticket deed) c t v e = one_within _ _ _ _ _ (names loco ticket v _ e).0.row
rows_within s (sos loco2 ticket2 loco1 ticket1 grid) c t v e =
    let f = raises s.margin grid loco2 ticket2 loco1 ticket1 v e in
    record { changed = f.l2.row; also = omega (arith, f.l1.row); apart = f.apart }
