-- THE SCAR, shut out: a release takes away the train of that loco and that ticket and nothing else, a pair names one train at most, and a pair whose
-- train is gone never names another.
use mathlib.Core.Path.{◌≡◌, sym, ◌∙◌, subst}
use mathlib.Core.Bool.{false, true≢false}
use Prim.Native.Nat.{ℕ, ◌≤◌, ◌<◌}
use native.Mathlib.Omega.{arith}
use lib.ListN.{length, length-set}
use lib.Seq.{get_or-set_same, get_or-set_other}
use borrow.Author.Tests.{eqb-true, eq-eqb}
use Rattle.trains.specs.Record.{blank_train}
use Rattle.trains.specs.Sought.{row_count}
use Rattle.kinds.specs.declared.Loco.{Loco}
use Rattle.kinds.specs.declared.Ticket.{Ticket}
use Rattle.trains.specs.declared.record.Train.{Train}
use Rattle.trains.proofs.ChangeLaws.{SameTrain}
use Rattle.rules.specs.Effect.{mark_for, marked, applied}
use Rattle.rules.specs.Named.{named_in, name_ground}
use Rattle.rules.specs.Registering.{ticket_for, released}
use Rattle.rules.specs.Rules.{Op, release, ground_of, done_by}
use Rattle.rules.specs.View.{View, row_in}
use Rattle.rules.specs.declared.settings.Settings.{Settings}
use Rattle.order.specs.InOrder.{InOrder}
use Rattle.order.specs.Scar.{Called, NamesNone, Released}
use Rattle.order.specs.Sound.{Sound}
use Rattle.order.proofs.AfterLaws.{after_op, one-row}
use Rattle.order.proofs.DeedLaws.{deed_same, share-same}
use Rattle.order.proofs.Facts.{row_for, names}
use Rattle.order.proofs.MarkLaws.{marked_outside, marked-inside}
use Rattle.order.proofs.RowLaws.{set_each, row_set}
use Rattle.order.proofs.SoundLaws.{live_same}

-- ---- a release

freed : (loco : Loco) (ticket : Ticket) (v : View) (i : ℕ) → Sound v → i < row_count → Called loco ticket (row_in v i)
    → Released loco ticket v (row_set v i blank_train (marked v.book (row_in v i).start.0 (row_in v i).slots 0))
freed loco ticket v i sound within had =
    record {
      row = i;
      had = had;
      blank = get_or-set_same v.rows i blank_train blank_train (omega (arith, sound.rows));
      others = λ k n. get_or-set_other v.rows i k blank_train blank_train n;
      freed = λ slot h. marked-inside v.book (row_in v i).start.0 (row_in v i).slots 0 slot sound.book h.book h.run;
      slots = λ slot b n. marked_outside v.book (row_in v i).start.0 (row_in v i).slots 0 slot b (λ r. n (record { book = b; run = r }));
    }

-- AN ACCEPTED RELEASE takes away the train of that loco and that ticket, and nothing else
pub release-takes : (s : Settings) (loco : Loco) (ticket c t : Ticket) (v : View) → Sound v → ground_of s (release loco ticket) c v ≡ 0
    → Released loco ticket v (applied v (done_by s (release loco ticket) c t v).effect)
unfolding ground_of done_by released mark_for
release-takes s loco ticket c t v sound e =
    let f = (names loco ticket v 0 e).0 in
    let n = named_in loco ticket v in
    subst (Released loco ticket v) (sym (one-row v n.row blank_train n.train.start n.train.slots false sound.rows))
    (subst (λ (x : Train). Released loco ticket v (row_set v n.row blank_train (marked v.book x.start.0 x.slots 0))) (sym f.train)
    (freed loco ticket v n.row sound f.row (subst (Called loco ticket) f.train f.has)))

-- ---- what a pair names

-- A PAIR NAMES ONE TRAIN AT MOST
pub names_one : (c : Ticket) (v : View) → InOrder c v → (loco : Loco) (ticket : Ticket) (i j : ℕ) → Called loco ticket (row_in v i) → Called loco ticket (row_in v j) → i ≡ j
names_one c v order loco ticket i j a b =
    order.tickets i j a.live b.live
    (eq-eqb (row_in v i).ticket.0 (row_in v j).ticket.0
    (eqb-true (row_in v i).ticket.0 ticket.0 a.by_ticket ∙ sym (eqb-true (row_in v j).ticket.0 ticket.0 b.by_ticket)))

-- A TICKET ABOVE THE COUNTER NAMES NO TRAIN: what is issued later was never issued before
pub above_names_none : (c : Ticket) (v : View) → InOrder c v → (loco : Loco) (ticket : Ticket) → c.0 < ticket.0 → NamesNone loco ticket v
above_names_none c v order loco ticket above i a =
    omega (arith, eqb-true (row_in v i).ticket.0 ticket.0 a.by_ticket, (order.trains i a.live).issued.issued)

-- and an operation that names it so is refused
pub none-refused : (loco : Loco) (ticket : Ticket) (v : View) → NamesNone loco ticket v → (next : ℕ) → name_ground (named_in loco ticket v) next ≡ 0 → ⊥
none-refused loco ticket v none next e =
    let f = (names loco ticket v next e).0 in
    none (named_in loco ticket v).row (subst (Called loco ticket) f.train f.has)

-- no change of a train gives it another loco or ticket
called_same : (loco : Loco) (ticket : Ticket) (u t : Train) → SameTrain u t → Called loco ticket u → Called loco ticket t
called_same loco ticket u t e a = record { live = live_same e a.live; by_loco = rw (← e.loco) a.by_loco; by_ticket = rw (← e.ticket) a.by_ticket }

none_after : (loco : Loco) (ticket : Ticket) (v : View) (i : ℕ) (u : Train) → length v.rows ≡ row_count → i < row_count
    → (Called loco ticket u → ⊥) → NamesNone loco ticket v → NamesNone loco ticket (row_set v i u v.book)
none_after loco ticket v i u l within n none =
    set_each (λ (k : ℕ) (t : Train). Called loco ticket t → ⊥) blank_train v.rows i u (omega (arith, l)) n (λ k m. none k)

-- WHAT WAS ISSUED BEFORE NAMES NO TRAIN ISSUED LATER: a pair whose ticket was issued and whose train is gone names none after any accepted operation
pub gone_stays : (s : Settings) (o : Op) (c : Ticket) (v : View) → Sound v → (loco : Loco) (ticket : Ticket) → ticket.0 ≤ c.0 → NamesNone loco ticket v
    → ground_of s o c v ≡ 0 → NamesNone loco ticket (applied v (done_by s o c (ticket_for c) v).effect)
unfolding ticket_for
gone_stays s o c v sound loco ticket before none e =
    after_op (λ (d : Ticket) (w : View). NamesNone loco ticket w) s o c (ticket_for c) v sound.rows
    (record {
      grant = λ wanted bytes f. none_after loco ticket v (row_for v) _ sound.rows f.row (λ a. omega (arith, eqb-true _ ticket.0 a.by_ticket)) none;
      release = λ i l live. none_after loco ticket v i blank_train sound.rows l (λ a. true≢false a.live) none;
      deed = λ i l live d. none_after loco ticket v i _ sound.rows l (still i (deed_same d (row_in v i))) none;
      sos = λ grid i j l live m also n.
          none_after loco ticket (row_set v i _ v.book) j _ (length-set v.rows i _ ∙ sound.rows) m (still j (share-same _ _ (row_in v j)))
          (none_after loco ticket v i _ sound.rows l (still i (share-same _ _ (row_in v i))) none);
    }) e
  where
    still : (k : ℕ) {u : Train} → SameTrain u (row_in v k) → Called loco ticket u → ⊥
    still k {u} q a = none k (called_same loco ticket u (row_in v k) q a)
