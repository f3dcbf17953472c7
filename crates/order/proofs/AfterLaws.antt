-- THE VIEW AFTER AN ACCEPTED OPERATION: one row changed and a run of slots marked, or two rows changed for an SOS. What these keep, every
-- operation keeps.
use mathlib.Core.Path.{◌≡◌, sym, subst, subst₂}
use mathlib.Core.Bool.{Bool, true, false}
use Prim.Native.Nat.{ℕ, ◌<◌}
use native.Mathlib.Omega.{arith}
use lib.ListN.{length, set, length-set}
use lib.Seq.{set_out}
use Rattle.trains.specs.Record.{blank_train, fresh_train}
use Rattle.trains.specs.Sought.{row_count}
use Rattle.kinds.specs.declared.Loco.{Loco}
use Rattle.kinds.specs.declared.Slot.{Slot}
use Rattle.kinds.specs.declared.Ticket.{Ticket}
use Rattle.trains.specs.declared.record.Train.{Train}
use Rattle.rules.specs.Deeds.{Deed, done}
use Rattle.rules.specs.Effect.{mark_for, marked, row_and_run, applied}
use Rattle.rules.specs.Named.{named_in}
use Rattle.rules.specs.Raising.{share_for_1, share_for_2, share_taken, raised}
use Rattle.rules.specs.Registering.{granted, released}
use Rattle.rules.specs.Rules.{Op, request, release, on, sos, ground_of, done_by}
use Rattle.rules.specs.Slots.{slot_of, slots_for}
use Rattle.rules.specs.View.{View, row_in}
use Rattle.rules.specs.Named.{Named}
use Rattle.rules.specs.declared.settings.Settings.{Settings}
use Rattle.order.specs.Sound.{Live}
use Rattle.order.proofs.Facts.{Requests, requests, row_for, run_for, Names, names, raises}
use Rattle.order.proofs.RowLaws.{row_set}

-- one row changed and a run marked: no other row is changed
pub one-row : (v : View) (row : ℕ) (t : Train) (start : Slot) (n : ℕ) (taken : Bool) → length v.rows ≡ row_count
    → applied v (row_and_run row t start n taken) ≡ row_set v row t (marked v.book start.0 n (mark_for taken))
unfolding applied
one-row v row t start n taken l = λ j. record {
  rows = set_out (set v.rows row t) row_count blank_train (omega (arith, length-set v.rows row t)) j;
  book = marked v.book start.0 n (mark_for taken);
}

-- ---- the four ways

-- a train granted
abbrev pub with_grant : View → ℕ → Loco → ℕ → Ticket → View
with_grant v per_slot loco bytes ticket =
    let start : Slot = run_for per_slot bytes v in
    row_set v (row_for v) (fresh_train loco ticket start (slots_for per_slot bytes)) (marked v.book start.0 (slots_for per_slot bytes) 1)

-- the train of a row released
abbrev pub with_release : View → ℕ → View
with_release v i = row_set v i blank_train (marked v.book (row_in v i).start.0 (row_in v i).slots 0)

-- a deed done on the train of a row
abbrev pub with_deed : View → ℕ → Deed → View
with_deed v i d = row_set v i (done d (row_in v i)).train v.book

-- an SOS between the train L2 of row i and the train L1 of row j
abbrev pub with_sos : View → ℕ → ℕ → ℕ → ℕ → View
with_sos v margin grid i j =
    let t2 : Train = row_in v i in
    let t1 : Train = row_in v j in
    row_set (row_set v i (share_taken (share_for_2 margin grid t2 t1) t1.ticket t2) v.book) j (share_taken (share_for_1 grid t2 t1) t2.ticket t1) v.book

-- each of these keeps what is to hold of the counter and the view
pub record OpsKeep (P : Ticket → View → Type 0) (s : Settings) (c t : Ticket) (v : View) : Type 0 where
  pub grant : (loco : Loco) (bytes : ℕ) → Requests s.carries loco bytes c v → P t (with_grant v s.carries loco bytes t)
  pub release : (i : ℕ) → i < row_count → Live (row_in v i) → P c (with_release v i)
  pub deed : (i : ℕ) → i < row_count → Live (row_in v i) → (d : Deed) → P c (with_deed v i d)
  pub sos : (grid i j : ℕ) → i < row_count → Live (row_in v i) → j < row_count → Live (row_in v j) → (i ≡ j → ⊥) → P c (with_sos v s.margin grid i j)

-- the train that is named is the one in its row, and is live
pub live-there : {loco : Loco} {ticket : Ticket} {v : View} {n : Named} → Names loco ticket v n → Live (row_in v n.row)
live-there f = subst Live f.train f.has.live

-- HOLDS AFTER EVERY ACCEPTED OPERATION
pub after_op : (P : Ticket → View → Type 0) (s : Settings) (o : Op) (c t : Ticket) (v : View) → length v.rows ≡ row_count → OpsKeep P s c t v
    → ground_of s o c v ≡ 0 → P (done_by s o c t v).counter (applied v (done_by s o c t v).effect)
unfolding ground_of done_by granted released raised applied mark_for marked
after_op P s (request loco bytes) c t v l b e =
    let f = requests s.carries loco bytes c v e in
    subst (P t) (sym (one-row v (row_for v) _ (run_for s.carries bytes v) (slots_for s.carries bytes) true l)) (b.grant loco bytes f)
after_op P s (release loco ticket) c t v l b e =
    let f = (names loco ticket v 0 e).0 in
    let n = named_in loco ticket v in
    subst (P c) (sym (one-row v n.row blank_train n.train.start n.train.slots false l))
    (subst (λ (x : Train). P c (row_set v n.row blank_train (marked v.book x.start.0 x.slots 0))) (sym f.train) (b.release n.row f.row (live-there f)))
after_op P s (on loco ticket deed) c t v l b e =
    let f = (names loco ticket v (done deed (named_in loco ticket v).train).answer.answer e).0 in
    let n = named_in loco ticket v in
    subst (P c) (sym (one-row v n.row (done deed n.train).train (slot_of 0) 0 false l))
    (subst (λ (x : Train). P c (row_set v n.row (done deed x).train v.book)) (sym f.train) (b.deed n.row f.row (live-there f) deed))
after_op P s (sos loco2 ticket2 loco1 ticket1 grid) c t v l b e =
    let f = raises s.margin grid loco2 ticket2 loco1 ticket1 v e in
    let l2 = named_in loco2 ticket2 v in
    let l1 = named_in loco1 ticket1 v in
    subst₂
    (λ (x y : Train).
    P c
    (row_set (row_set v l2.row (share_taken (share_for_2 s.margin grid x y) y.ticket x) v.book) l1.row (share_taken (share_for_1 grid x y) x.ticket y) v.book))
    (sym f.l2.train) (sym f.l1.train)
    (b.sos grid l2.row l1.row f.l2.row (live-there f.l2) f.l1.row (live-there f.l1) f.apart)
