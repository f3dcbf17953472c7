-- EVERY EFFECT of an accepted operation fits the bytes, where the trains of the view fit their rows: a train that is changed still fits its row.
use Rattle.std.specs.Prelude.{None, Some}
use mathlib.Core.Path.{◌≡◌, refl, sym, subst}
use mathlib.Core.Bool.{Bool, true, false, cond, ◌||◌}
use mathlib.Core.List.{List, []}
use Prim.Native.Nat.{ℕ, ◌≤◌}
use native.Mathlib.Omega.{arith}
use borrow.Author.Tests.{leb-true, eqb-true}
use lib.Dec.{eqb}
use Rattle.modes.specs.declared.Step.{Step}
use Rattle.modes.specs.Next.{refuses, next_step}
use Rattle.modes.proofs.Laws.{refused_exactly_on_its_grounds, next_is_a_mode}
use Rattle.trains.specs.Changes.{with_mode}
use Rattle.kinds.specs.Ranges.{none, last_location, is_location, is_position, is_none_or_location, location_from}
use Rattle.trains.specs.Record.{blank_train}
use Rattle.kinds.specs.declared.Loco.{Loco}
use Rattle.kinds.specs.declared.Ticket.{Ticket}
use Rattle.trains.specs.declared.record.Train.{Train}
use Rattle.kinds.proofs.RangeLaws.{position-ends}
use Rattle.rows.proofs.FitLaws.{Byte, OptionalFits, Fits, fits_read, fits_fresh, fits-position, fits-authority, fits-danger, fits-mode, fits_cleared}
use Rattle.rows.proofs.RowLaws.{row-zeros}
use Rattle.rules.specs.Deeds.{Deed, flags, position, authority, danger, clear, done, changed_if, changed_with, step_taken, mode_stepped}
use Rattle.rules.specs.Named.{named_in}
use Rattle.rules.specs.Raising.{cell_for, share_for_2, share_for_1, raised}
use Rattle.rules.specs.Registering.{ticket_for, granted, released}
use Rattle.rules.specs.Rules.{Op, request, release, on, sos, ground_of, done_by}
use Rattle.rules.specs.Ruling.{refused_with}
use Rattle.rules.specs.Slots.{slots_for}
use Rattle.rules.specs.View.{View, row_in}
use Rattle.rules.specs.Named.{Named}
use Rattle.rules.specs.declared.settings.Settings.{Settings}
use Rattle.grids.specs.Cells.{measure_of}
use Rattle.order.proofs.Facts.{run_for, requests, Names, names, raises}
use Rattle.order.proofs.SoundLaws.{rows_within}
use Rattle.ledger.proofs.SettledLaws.{EffectFits}
use Rattle.session.proofs.ShareLaws.{share_of_l1-fits, share_of_l2-fits, share_taken-fits}

-- a blank row fits
pub fits-blank : Fits blank_train
fits-blank = subst Fits (row-zeros [] 0 (λ i l. refl)) (fits_read [] 0)

-- ---- each deed

location-fits : (number : ℕ) → is_none_or_location number ≡ true → OptionalFits (location_from number)
unfolding is_none_or_location location_from
location-fits number e = go (eqb number none) e
  where
    go : (b : Bool) → (b || is_location number) ≡ true → OptionalFits (cond b None (Some number))
    go true h = tt
    go false h = let l : number ≤ last_location = leb-true number last_location h in omega arith

-- a mode step that is taken leads to a mode
next_fits : (mode : ℕ) (fs : List ℕ) → (next_step mode fs).answer ≡ 0 → Byte (next_step mode fs).mode
next_fits mode fs e = go (refuses mode fs) refl
  where
    go : (b : Bool) → refuses mode fs ≡ b → Byte (next_step mode fs).mode
    go true r = absurd (omega (arith, (refused_exactly_on_its_grounds mode fs).1 r))
    go false r = omega (arith, (next_is_a_mode mode fs r).1)

step_fits : (t : Train) (s : Step) → Fits t → Byte s.mode → Fits (step_taken t s)
unfolding step_taken
step_fits t s f m = go (eqb s.priority 0)
  where
    go : (b : Bool) → Fits (cond b t (with_mode t s.mode))
    go true = f
    go false = fits-mode t s.mode f m

mode_stepped-fits : (t : Train) (s : Step) → Fits t → (s.answer ≡ 0 → Byte s.mode) → Fits (mode_stepped t s).train
unfolding mode_stepped
mode_stepped-fits t s f m = go (eqb s.answer 0) refl
  where
    go : (b : Bool) → eqb s.answer 0 ≡ b
        → Fits (cond b (changed_with (record { answer = 0; first = s.mode; second = s.priority; third = s.tie }) (step_taken t s)) (changed_with (refused_with s.answer) t)).train
    go true e = step_fits t s f (m (eqb-true s.answer 0 e))
    go false e = f

changed-fits : (test : Bool) (ground : ℕ) (before after : Train) → Fits before → (test ≡ true → Fits after) → Fits (changed_if test ground before after).train
unfolding changed_if
changed-fits true ground before after f g = g refl
changed-fits false ground before after f g = f

-- a deed leaves a train that fits
deed_fits : (d : Deed) (t : Train) → Fits t → Fits (done d t).train
unfolding done
deed_fits (flags fs) t f = mode_stepped-fits t (next_step t.mode fs) f (next_fits t.mode fs)
deed_fits (position front rear) t f =
    changed-fits (is_position front rear) _ t _ f
    (λ e. let ends = position-ends front rear e in fits-position t front rear f (omega arith) (omega arith))
deed_fits (authority end) t f = changed-fits (is_none_or_location end) _ t _ f (λ e. fits-authority t (location_from end) f (location-fits end e))
deed_fits (danger location) t f =
    changed-fits (is_none_or_location location) _ t _ f (λ e. fits-danger t (location_from location) f (location-fits location e))
deed_fits (clear other) t f = changed-fits _ _ t _ f (λ e. fits_cleared t other f)

-- ---- each operation

-- the trains of a view fit their rows
abbrev pub Fitted : View → Type 0
Fitted v = (i : ℕ) → Fits (row_in v i)

module _ (s : Settings) (c : Ticket) (v : View) (fitted : Fitted v) where
  named_fits : {loco : Loco} {ticket : Ticket} {n : Named} → Names loco ticket v n → Fits n.train
  named_fits {loco} {ticket} {n} h = subst Fits (sym h.train) (fitted n.row)

  -- where it is accepted, an operation's effect fits
  pub fitting : (o : Op) → ground_of s o c v ≡ 0 → EffectFits (done_by s o c (ticket_for c) v).effect
  unfolding ground_of done_by granted released raised ticket_for
  fitting (request loco bytes) e =
      let r = requests s.carries loco bytes c v e in
      let within = rows_within s (request loco bytes) c (ticket_for c) v e in
      let free = r.run (run_for s.carries bytes v).0 (record { low = omega arith; high = omega (arith, r.slots.0) }) in
      record {
        bounds = record { changed = within.changed; also = within.also; start = omega (arith, free.book.high); slots = omega (arith, r.slots.1) };
        changed =
            fits_fresh loco (ticket_for c) (run_for s.carries bytes v) (slots_for s.carries bytes) (omega (arith, r.loco.1)) (omega (arith, r.below))
            (omega (arith, free.book.high)) (omega (arith, r.slots.1));
        also = λ l. absurd (omega arith);
      }
  fitting (release loco ticket) e =
      let n = (names loco ticket v 0 e).0 in
      let within = rows_within s (release loco ticket) c (ticket_for c) v e in
      record {
        bounds = record { changed = within.changed; also = within.also; start = (named_fits n).start; slots = (named_fits n).slots };
        changed = fits-blank;
        also = λ l. absurd (omega arith);
      }
  fitting (on loco ticket deed) e =
      let n = (names loco ticket v _ e).0 in
      let within = rows_within s (on loco ticket deed) c (ticket_for c) v e in
      record {
        bounds = record { changed = within.changed; also = within.also; start = omega arith; slots = omega arith };
        changed = deed_fits deed (named_in loco ticket v).train (named_fits n);
        also = λ l. absurd (omega arith);
      }
  fitting (sos loco2 ticket2 loco1 ticket1 grid) e =
      let r = raises s.margin grid loco2 ticket2 loco1 ticket1 v e in
      let within = rows_within s (sos loco2 ticket2 loco1 ticket1 grid) c (ticket_for c) v e in
      let t2 : Train = (named_in loco2 ticket2 v).train in
      let t1 : Train = (named_in loco1 ticket1 v).train in
      let f2 : Fits t2 = named_fits r.l2 in
      let f1 : Fits t1 = named_fits r.l1 in
      let m : ℕ = measure_of (cell_for grid t2) in
      record {
        bounds = record { changed = within.changed; also = within.also; start = omega arith; slots = omega arith };
        changed = share_taken-fits (share_for_2 s.margin grid t2 t1) t1.ticket t2 f2 f1.ticket (share_of_l2-fits m t1 t2 s.margin f1 f2);
        also = λ l. share_taken-fits (share_for_1 grid t2 t1) t2.ticket t1 f1 f2.ticket (share_of_l1-fits m t1 f1);
      }
