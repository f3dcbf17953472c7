-- COUNTER AND VIEW STAY IN ORDER: at the start, after every accepted operation, and where the counter is higher.
use mathlib.Core.Path.{◌≡◌, refl, sym, ◌∙◌, subst}
use mathlib.Core.Bool.{true, false, not, true≢false, and-eq-true_iff}
use mathlib.Core.List.{List, [], ◌∷◌}
use mathlib.Core.Logic.{by_cases}
use Prim.Native.Nat.{ℕ, zero, suc, ◌+◌, ◌-◌, ◌≤◌, ◌<◌}
use native.Mathlib.Decide.{dec_le, dec_lt}
use native.Mathlib.Omega.{arith}
use lib.Dec.{eqb}
use lib.ListN.{length, get_or, replicate, length-replicate, get_or-replicate, get_or-eq_default}
use lib.Seq.{get_or-set_same}
use borrow.Author.Tests.{eqb-true, eqb-false, eq-eqb, ne_eqb, not-true}
use Rattle.kinds.specs.Kinds.{last_loco, last_ticket, last_slot, slot_in_range, same_loco}
use Rattle.trains.specs.Record.{no_order, order_at, blank_train, fresh_train, is_empty}
use Rattle.trains.specs.Sought.{row_count, holds_loco}
use Rattle.kinds.specs.declared.Loco.{Loco}
use Rattle.kinds.specs.declared.Slot.{Slot}
use Rattle.kinds.specs.declared.Ticket.{Ticket}
use Rattle.trains.specs.declared.record.Train.{Train}
use Rattle.trains.proofs.ChangeLaws.{SameTrain}
use Rattle.kinds.proofs.RangeLaws.{one-to}
use Rattle.rules.specs.Deeds.{done}
use Rattle.rules.specs.Effect.{marked, applied}
use Rattle.rules.specs.Raising.{cell_for, share_for_1, share_for_2, share_taken}
use Rattle.rules.specs.Registering.{ticket_of, ticket_for}
use Rattle.rules.specs.Rules.{Op, ground_of, done_by}
use Rattle.rules.specs.Slots.{most_slots, slot_of, slots_for}
use Rattle.rules.specs.View.{View, row_in, mark_of, is_taken}
use Rattle.rules.specs.declared.settings.Settings.{Settings}
use Rattle.grids.specs.Cells.{measure_of}
use Rattle.order.specs.InOrder.{left_fits, TicketFits, OrdersFit, RunFits, TrainFits, ShareLoco, ShareTicket, Holder, InOrder, start_view}
use Rattle.order.specs.Sound.{Live, InBook, InRun, Has, Sound}
use Rattle.order.proofs.AfterLaws.{after_op, with_grant, with_sos}
use Rattle.order.proofs.DeedLaws.{deed_same, share-same}
use Rattle.order.proofs.Facts.{Free, Requests, row_for, run_for}
use Rattle.order.proofs.MarkLaws.{marked_outside, marked-inside, marked_each}
use Rattle.order.proofs.RowLaws.{set_each, row_set, no_two_set}
use Rattle.order.proofs.SoundLaws.{has_same, live_same, sound-same, sound-taken, sound-freed, row_other}
use Rattle.order.proofs.TrainLaws.{same-turned, deed_fits, share1_fits, share2_fits, share-fits}

same_back : {u t : Train} → SameTrain u t → SameTrain t u
same_back e = record { loco = sym e.loco; ticket = sym e.ticket; start = sym e.start; slots = sym e.slots }

-- ---- a higher counter

ticket_higher : (c d t : Ticket) → c.0 ≤ d.0 → TicketFits c t → TicketFits d t
ticket_higher c d t l h = record { last = h.last; issued = omega (arith, h.issued) }

train_higher : (c d : Ticket) (t : Train) → c.0 ≤ d.0 → TrainFits c t → TrainFits d t
train_higher c d t l h =
    record {
      loco = h.loco;
      ticket = h.ticket;
      issued = ticket_higher c d t.ticket l h.issued;
      run = h.run;
      mode = h.mode;
      left = h.left;
      position = h.position;
      granted = h.granted;
      danger = h.danger;
      orders =
          record {
            four = h.orders.four;
            issued = λ i. ticket_higher c d (order_at t.orders i).other l (h.orders.issued i);
            other = h.orders.other;
            once = h.orders.once;
            free = h.orders.free;
            limits = h.orders.limits;
          };
    }

pub order_higher : (c d : Ticket) (v : View) → c.0 ≤ d.0 → InOrder c v → InOrder d v
order_higher c d v l h =
    record {
      sound = h.sound;
      marks = h.marks;
      taken = h.taken;
      locos = h.locos;
      tickets = h.tickets;
      trains = λ i live. train_higher c d (row_in v i) l (h.trains i live);
      blank = h.blank;
    }

pub order-sound : (c : Ticket) (v : View) → InOrder c v → Sound v
order-sound c v h = h.sound

-- ---- slots that are taken

-- a slot that is taken is one of the book's, and marked
taken_means : (book : List ℕ) (slot : ℕ) → is_taken book (slot_of slot) ≡ true → InBook slot × (mark_of book (slot_of slot) ≡ 0 → ⊥)
unfolding is_taken
taken_means book slot e =
    let both = (and-eq-true_iff (slot_in_range (slot_of slot)) (not (eqb (mark_of book (slot_of slot)) 0))).0 e in
    let range = one-to last_slot slot both.0 in
    (record { low = range.0; high = range.1 }, eqb-false _ 0 (not-true _ both.1))

-- where the marks are the same, the same is taken
taken_alike : (book before : List ℕ) (slot : ℕ) → mark_of book (slot_of slot) ≡ mark_of before (slot_of slot) → is_taken book (slot_of slot) ≡ true → is_taken before (slot_of slot) ≡ true
unfolding is_taken
taken_alike book before slot q e = rw (← q) e

-- a slot is one of a run, or it is not
run_or_not : {A : Type 0} (start n slot : ℕ) → (InRun start n slot → A) → ((InRun start n slot → ⊥) → A) → A
run_or_not start n slot inside outside =
    by_cases (dec_le start slot)
    (λ l. by_cases (dec_lt slot (start + n)) (λ m. inside (record { low = l; high = m })) (λ m. outside (λ r. m r.high)))
    (λ l. outside (λ r. l r.low))

-- ---- the start

all_alike : {A : Type 0} (n : ℕ) (a : A) (i : ℕ) → get_or (replicate n a) i a ≡ a
all_alike n a i = by_cases (dec_lt i n) (get_or-replicate n i a a) (λ h. get_or-eq_default (replicate n a) a (omega (arith, length-replicate n a, h)))

no_train : (n : ℕ) (i : ℕ) {A : Type 0} → Live (get_or (replicate n blank_train) i blank_train) → A
no_train n i l = absurd (true≢false (rw (all_alike n blank_train i) at l))

-- 24 blank rows, a free book and a counter of 0 are in order
pub order-start : InOrder (ticket_of 0) start_view
unfolding start_view
order-start =
    record {
      sound =
          record {
            rows = length-replicate row_count blank_train;
            book = length-replicate {A = ℕ} last_slot 0;
            marked = λ i slot l. no_train row_count i l;
            apart = λ i j l. no_train row_count i l;
          };
      marks = λ i. rw (all_alike {A = ℕ} last_slot 0 i) (omega arith);
      taken = λ slot e. absurd ((taken_means (replicate last_slot 0) slot e).1 (all_alike {A = ℕ} last_slot 0 (slot - 1)));
      locos = λ i j l. no_train row_count i l;
      tickets = λ i j l. no_train row_count i l;
      trains = λ i l. no_train row_count i l;
      blank = λ i e. all_alike row_count blank_train i;
    }

-- ---- one row changed

module _ (c : Ticket) (v : View) (i : ℕ) (u : Train) (order : InOrder c v) (within : i < row_count) where
  row-there : i < length v.rows
  row-there = omega (arith, order.sound.rows)

  -- a slot that had a train has one, where the changed row does not lose it
  holder_kept : (book : List ℕ) (slot : ℕ) → (Live (row_in v i) → Has (row_in v i) slot → Live u × Has u slot) → Holder v slot → Holder (row_set v i u book) slot
  holder_kept book slot this h =
      let k =
      set_each (λ (k : ℕ) (t : Train). Live (row_in v k) → Has (row_in v k) slot → Live t × Has t slot) blank_train v.rows i u row-there this
      (λ k n l m. (l, m)) h.0 h.1 h.2
      in
      (h.0, k.0, k.1)

  -- a slot that is taken after a run is marked has a train: of the run, the changed row; of any other, the one that it had
  held_after : (start n mark slot : ℕ) → is_taken (marked v.book start n mark) (slot_of slot) ≡ true
      → (InBook slot → InRun start n slot → (mark ≡ 0 → ⊥) → Live u × Has u slot)
      → ((InRun start n slot → ⊥) → Live (row_in v i) → Has (row_in v i) slot → Live u × Has u slot)
      → Holder (row_set v i u (marked v.book start n mark)) slot
  held_after start n mark slot q inside outside =
      let means = taken_means (marked v.book start n mark) slot q in
      run_or_not start n slot
      (λ r.
      let mine = inside means.0 r (λ z. means.1 (marked-inside v.book start n mark slot order.sound.book means.0 r ∙ z)) in
      let there = get_or-set_same v.rows i u blank_train row-there in
      (i, rw there mine.0, rw there mine.1))
      (λ out.
      holder_kept (marked v.book start n mark) slot (outside out)
      (order.taken slot (taken_alike (marked v.book start n mark) v.book slot (marked_outside v.book start n mark slot means.0 out) q)))

  -- where the changed row shares no loco and no ticket with another, and is in order itself
  order-set : (d : Ticket) (book : List ℕ) → c.0 ≤ d.0 → Sound (row_set v i u book) → ((k : ℕ) → get_or book k 0 ≤ 1)
      → ((slot : ℕ) → is_taken book (slot_of slot) ≡ true → Holder (row_set v i u book) slot)
      → ((k : ℕ) → (k ≡ i → ⊥) → Live u → Live (row_in v k) → ShareLoco u (row_in v k) → ⊥)
      → ((k : ℕ) → (k ≡ i → ⊥) → Live u → Live (row_in v k) → ShareTicket u (row_in v k) → ⊥)
      → (Live u → TrainFits d u) → (is_empty u ≡ true → u ≡ blank_train)
      → InOrder d (row_set v i u book)
  order-set d book higher sound marks taken loco ticket fits blank =
      record {
        sound = sound;
        marks = marks;
        taken = taken;
        locos = no_two_set Live ShareLoco (λ a b. same-turned a.loco.0 b.loco.0) blank_train v.rows i u row-there loco order.locos;
        tickets = no_two_set Live ShareTicket (λ a b. same-turned a.ticket.0 b.ticket.0) blank_train v.rows i u row-there ticket order.tickets;
        trains =
            set_each (λ (k : ℕ) (t : Train). Live t → TrainFits d t) blank_train v.rows i u row-there fits
            (λ k n l. train_higher c d (row_in v k) higher (order.trains k l));
        blank = set_each (λ (k : ℕ) (t : Train). is_empty t ≡ true → t ≡ blank_train) blank_train v.rows i u row-there blank (λ k n. order.blank k);
      }

  -- the same train, in order
  order_same : SameTrain u (row_in v i) → Live (row_in v i) → TrainFits c u → InOrder c (row_set v i u v.book)
  order_same e live fits =
      order-set c v.book (omega arith) (sound-same v i u order.sound within e) order.marks
      (λ slot q. holder_kept v.book slot (λ l h. (live_same (same_back e) l, has_same (same_back e) h)) (order.taken slot q))
      (λ k n l m s. n (sym (order.locos i k live m (rw (← e.loco) s)))) (λ k n l m s. n (sym (order.tickets i k live m (rw (← e.ticket) s))))
      (λ l. fits) (λ z. absurd (true≢false (sym z ∙ live_same (same_back e) live)))

  -- a train released
  order-freed : Live (row_in v i) → u ≡ blank_train → InOrder c (row_set v i u (marked v.book (row_in v i).start.0 (row_in v i).slots 0))
  order-freed live gone =
      let start : ℕ = (row_in v i).start.0 in
      let n : ℕ = (row_in v i).slots in
      let empty : is_empty u ≡ true = rw gone in
      order-set c (marked v.book start n 0) (omega arith) (sound-freed v i u order.sound within live empty)
      (marked_each (λ m. m ≤ 1) v.book start n 0 order.sound.book (omega arith) order.marks)
      (λ slot q. held_after start n 0 slot q (λ b r z. absurd (z refl)) (λ out l h. absurd (out h.run)))
      (λ k m l. absurd (true≢false (sym empty ∙ l))) (λ k m l. absurd (true≢false (sym empty ∙ l))) (λ l. absurd (true≢false (sym empty ∙ l))) (λ z. gone)

  -- a train granted, under a ticket above the counter
  order-taken : is_empty (row_in v i) ≡ true → c.0 < u.ticket.0 → Live u → TrainFits u.ticket u
      → ((slot : ℕ) → InRun u.start.0 u.slots slot → Free v.book slot) → ((k : ℕ) → Live (row_in v k) → ShareLoco u (row_in v k) → ⊥)
      → InOrder u.ticket (row_set v i u (marked v.book u.start.0 u.slots 1))
  order-taken empty above live fits free loco =
      let start : ℕ = u.start.0 in
      let n : ℕ = u.slots in
      order-set u.ticket (marked v.book start n 1) (omega arith) (sound-taken v i u order.sound within free)
      (marked_each (λ m. m ≤ 1) v.book start n 1 order.sound.book (omega arith) order.marks)
      (λ slot q. held_after start n 1 slot q (λ b r z. (live, record { book = b; run = r })) (λ out l h. absurd (true≢false (sym empty ∙ l))))
      (λ k m l. loco k) (λ k m l h s. omega (arith, eqb-true u.ticket.0 (row_in v k).ticket.0 s, (order.trains k h).issued.issued))
      (λ l. fits) (λ z. absurd (true≢false (sym z ∙ live)))

-- ---- a train granted

-- the four places of a train just granted are free
blank-place : (i : ℕ) → order_at (no_order ∷ no_order ∷ no_order ∷ no_order ∷ []) i ≡ no_order
blank-place zero = refl
blank-place (suc zero) = refl
blank-place (suc (suc zero)) = refl
blank-place (suc (suc (suc zero))) = refl
blank-place (suc (suc (suc (suc i)))) = refl

no_orders : (c own : Ticket) → 1 ≤ own.0 → OrdersFit c own (no_order ∷ no_order ∷ no_order ∷ no_order ∷ [])
no_orders c own some =
    record {
      four = refl;
      issued = λ i. rw (blank-place i) (record { last = omega arith; issued = omega arith });
      other = λ i. rw (blank-place i) (ne_eqb 0 own.0 (λ e. omega arith));
      once = λ i j o. absurd (true≢false (rw (blank-place i) at o));
      free = λ i e. blank-place i;
      limits = λ i. rw (blank-place i) tt;
    }

-- a free run is in the book
run_fits : (book : List ℕ) (start n : ℕ) → (1 ≤ n) × (n ≤ most_slots) → ((slot : ℕ) → InRun start n slot → Free book slot) → RunFits start n
run_fits book start n few free =
    record {
      some = few.0;
      few = few.1;
      low = (free start (record { low = omega arith; high = omega (arith, few) })).book.low;
      high = omega (arith, few, (free (start + n - 1) (record { low = omega (arith, few); high = omega (arith, few) })).book.high);
    }

fresh-fits : (c : Ticket) (loco : Loco) (start : Slot) (n : ℕ) → (1 ≤ loco.0) × (loco.0 ≤ last_loco) → c.0 < last_ticket → RunFits start.0 n
    → TrainFits (ticket_for c) (fresh_train loco (ticket_for c) start n)
unfolding ticket_for left_fits
fresh-fits c loco start n range below run =
    record {
      loco = range;
      ticket = omega arith;
      issued = record { last = omega arith; issued = omega arith };
      run = run;
      mode = (omega arith, omega arith);
      left = refl;
      position = tt;
      granted = tt;
      danger = tt;
      orders = no_orders (ticket_for c) (ticket_for c) (omega arith);
    }

-- a row that holds a train is one of the 24
live_within : (v : View) (k : ℕ) → length v.rows ≡ row_count → Live (row_in v k) → k < row_count
live_within v k h l =
    by_cases (dec_lt k row_count) (λ m. m)
    (λ m. absurd (true≢false (rw (get_or-eq_default v.rows blank_train {n = k} (omega (arith, h, m))) at l)))

other-loco : (t : Train) (wanted : Loco) → Live t → holds_loco t.loco wanted ≡ false → same_loco wanted t.loco ≡ true → ⊥
unfolding holds_loco
other-loco t wanted live h s = true≢false (sym (same-turned wanted.0 t.loco.0 s) ∙ (rw live at h))

order-granted : (per_slot : ℕ) (loco : Loco) (bytes : ℕ) (c : Ticket) (v : View) → InOrder c v → Requests per_slot loco bytes c v
    → InOrder (ticket_for c) (with_grant v per_slot loco bytes (ticket_for c))
unfolding ticket_for
order-granted per_slot loco bytes c v order f =
    order-taken c v (row_for v) (fresh_train loco (ticket_for c) (run_for per_slot bytes v) (slots_for per_slot bytes)) order f.row f.empty
    (omega arith) (ne_eqb loco.0 0 (λ z. omega (arith, f.loco)))
    (fresh-fits c loco (run_for per_slot bytes v) (slots_for per_slot bytes) f.loco f.below (run_fits v.book (run_for per_slot bytes v).0 (slots_for per_slot bytes) f.slots f.run))
    f.run (λ k l. other-loco (row_in v k) loco l (f.new k (live_within v k order.sound.rows l)))

-- ---- an SOS

order-raised : (margin grid : ℕ) (c : Ticket) (v : View) (i j : ℕ) → InOrder c v → i < row_count → Live (row_in v i) → j < row_count → Live (row_in v j) → (i ≡ j → ⊥)
    → InOrder c (with_sos v margin grid i j)
order-raised margin grid c v i j order within live within' live' apart =
    let t2 : Train = row_in v i in
    let t1 : Train = row_in v j in
    let fits2 : TrainFits c t2 = order.trains i live in
    let fits1 : TrainFits c t1 = order.trains j live' in
    let measure : ℕ = measure_of (cell_for grid t2) in
    let other = ne_eqb t1.ticket.0 t2.ticket.0 (λ e. apart (sym (order.tickets j i live' live (eq-eqb t1.ticket.0 t2.ticket.0 e)))) in
    let a : Train = share_taken (share_for_2 margin grid t2 t1) t1.ticket t2 in
    let b : Train = share_taken (share_for_1 grid t2 t1) t2.ticket t1 in
    let limit2 = share2_fits measure t1.track.position t2.track.position margin fits1.position fits2.position in
    let limit1 = share1_fits measure t1 fits1.position in
    let turned = ne_eqb t2.ticket.0 t1.ticket.0 (λ e. eqb-false t1.ticket.0 t2.ticket.0 other (sym e)) in
    let after2 = share-fits c t2 (share_for_2 margin grid t2 t1) t1.ticket fits2 limit2 fits1.ticket fits1.issued other in
    let after1 = share-fits c t1 (share_for_1 grid t2 t1) t2.ticket fits1 limit1 fits2.ticket fits2.issued turned in
    let stays = sym (row_other v i j a apart) in
    order_same c (row_set v i a v.book) j b (order_same c v i a order within (share-same (share_for_2 margin grid t2 t1) t1.ticket t2) live after2) within'
    (subst (SameTrain b) stays (share-same (share_for_1 grid t2 t1) t2.ticket t1)) (subst Live stays live') after1

-- ---- accepted operations

-- AN ACCEPTED OPERATION LEAVES COUNTER AND VIEW IN ORDER, whatever the settings
pub order-kept : (s : Settings) (o : Op) (c : Ticket) (v : View) → InOrder c v → ground_of s o c v ≡ 0
    → InOrder (done_by s o c (ticket_for c) v).counter (applied v (done_by s o c (ticket_for c) v).effect)
order-kept s o c v h e =
    after_op InOrder s o c (ticket_for c) v h.sound.rows
    (record {
      grant = λ loco bytes f. order-granted s.carries loco bytes c v h f;
      release = λ i l live. order-freed c v i blank_train h l live refl;
      deed = λ i l live d. order_same c v i (done d (row_in v i)).train h l (deed_same d (row_in v i)) live (deed_fits c (row_in v i) (h.trains i live) d);
      sos = λ grid i j l live m also n. order-raised s.margin grid c v i j h l live m also n;
    }) e
