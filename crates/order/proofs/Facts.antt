-- THE RULES, WALKED ONCE: what it says of an operation and a view that there is no ground to refuse it. Every other law cites these facts.
use Rattle.std.specs.Prelude.{Option, None, Some, is_some}
use mathlib.Core.Path.{◌≡◌, refl}
use mathlib.Core.Bool.{Bool, true, false, not, ◌&&◌, true≢false, false≢true, and-eq-true_iff}
use mathlib.Core.List.{List}
use Prim.Native.Nat.{ℕ, zero, suc, ◌+◌, ◌-◌, ◌*◌, ◌≤◌, ◌<◌}
use native.Mathlib.Nat.{le-div_iff_mul-le, div-lt_iff_lt-mul, one-mul, eq-or-lt_of_le}
use native.Mathlib.Omega.{arith}
use mathlib.Core.Logic.{⊎_elim}
use borrow.Author.Tests.{ltb-true, eqb-true, eqb-false, not-true, not-false}
use Rattle.kinds.specs.Found.{first}
use Rattle.kinds.specs.Kinds.{last_loco, last_slot, last_ticket, slot_in_range, same_loco, same_ticket, ticket_in_range}
use Rattle.trains.specs.Record.{is_empty}
use Rattle.trains.specs.Sought.{row_count, holds_loco, is_sought}
use Rattle.kinds.specs.declared.Loco.{Loco}
use Rattle.kinds.specs.declared.Slot.{Slot}
use Rattle.kinds.specs.declared.Ticket.{Ticket}
use Rattle.trains.specs.declared.record.Train.{Train}
use Rattle.trains.specs.declared.sought.Sought.{Sought}
use Rattle.trains.specs.declared.sought.Sought.TheVariants.{Pair, Number, Empty}
use Rattle.kinds.proofs.FoundLaws.{Before, first_below, first-true, first-before}
use Rattle.kinds.proofs.RangeLaws.{one-to}
use Rattle.rules.specs.Named.{in_row, named_in, name_ground}
use Rattle.rules.specs.Raising.{sos_ground}
use Rattle.rules.specs.Registering.{request_ground, row_of_found}
use Rattle.rules.specs.Slots.{most_slots, is_request, slots_for, slot_of, is_free, is_run, run_from, lowest_run, start_of}
use Rattle.rules.specs.View.{View, row_in, mark_of, is_taken, sought_in, find_in}
use Rattle.rules.specs.Named.{Named}
use Rattle.rules.proofs.ChainLaws.{passed, passed-unless, both}
use Rattle.order.specs.Scar.{Called}
use Rattle.order.specs.Sound.{InBook, InRun}

-- ---- searches

there : (f : Option ℕ) → is_some f ≡ true → f ≡ Some (row_of_found f)
unfolding row_of_found
there None e = absurd (false≢true e)
there (Some i) e = refl

nowhere : (f : Option ℕ) (k : ℕ) → is_some f ≡ false → Before k f
nowhere None k e = tt
nowhere (Some i) k e = absurd (true≢false e)

-- a row that is found is one of the 24, and holds what is sought
pub found_in_lem : (v : View) (sought : Sought) (row : ℕ) → find_in v sought ≡ Some row → (row < row_count) × (is_sought sought (row_in v row) ≡ true)
unfolding find_in sought_in
found_in_lem v sought row e = (
  omega (arith, first_below (sought_in v sought) 0 row_count row e),
  first-true (sought_in v sought) 0 row_count row e,
)

-- where nothing is found, none of the 24 holds it
pub found_nowhere : (v : View) (sought : Sought) → is_some (find_in v sought) ≡ false → (i : ℕ) → i < row_count → is_sought sought (row_in v i) ≡ false
unfolding find_in sought_in
found_nowhere v sought e i l =
    first-before (sought_in v sought) 0 row_count i (omega arith) (omega arith) (nowhere (first (sought_in v sought) 0 row_count) i e)

-- ---- free slots

-- a slot of the book that is free
pub record Free (marks : List ℕ) (slot : ℕ) : Type 0 where
  pub book : InBook slot
  pub mark : mark_of marks (slot_of slot) ≡ 0

second_fails : (a b : Bool) → a ≡ true → (a && b) ≡ false → b ≡ false
second_fails true b e n = n
second_fails false b e n = absurd (false≢true e)

free : (marks : List ℕ) (slot : ℕ) → is_free marks (slot_of slot) ≡ true → Free marks slot
unfolding is_free is_taken
free marks slot e =
    let both = (and-eq-true_iff (slot_in_range (slot_of slot)) (not (is_taken marks (slot_of slot)))).0 e in
    let range = one-to last_slot slot both.0 in
    let unmarked = second_fails _ _ both.0 (not-true (is_taken marks (slot_of slot)) both.1) in
    record { book = record { low = range.0; high = range.1 }; mark = eqb-true _ 0 (not-false _ unmarked) }

free-run : (marks : List ℕ) (start n : ℕ) → is_run marks start n ≡ true → (slot : ℕ) → InRun start n slot → Free marks slot
unfolding is_run
free-run marks start zero e slot r = absurd (omega arith)
free-run marks start (suc n) e slot r =
    let both = (and-eq-true_iff (is_free marks (slot_of start)) (is_run marks (suc start) n)).0 e in
    ⊎_elim (λ q. rw (← q) (free marks start both.0))
    (λ l. free-run marks (suc start) n both.1 slot (record { low = l; high = omega (arith, r.high) })) (eq-or-lt_of_le r.low)

-- the run from the start that was found
from_start : (f : Option ℕ) → is_some (run_from f) ≡ true → f ≡ Some (start_of (run_from f)).0
unfolding run_from start_of
from_start None e = absurd (false≢true e)
from_start (Some start) e = refl

lowest-free : (marks : List ℕ) (n : ℕ) → is_some (lowest_run marks n) ≡ true → (slot : ℕ) → InRun (start_of (lowest_run marks n)).0 n slot → Free marks slot
unfolding lowest_run
lowest-free marks n e =
    free-run marks _ n (first-true (λ start. is_run marks start n) 1 last_slot _ (from_start (first (λ start. is_run marks start n) 1 last_slot) e))

-- a request needs one to six slots
few-slots : (per_slot bytes : ℕ) → is_request per_slot bytes ≡ true → (1 ≤ slots_for per_slot bytes) × (slots_for per_slot bytes ≤ most_slots)
unfolding is_request slots_for
few-slots per_slot bytes e =
    let range = one-to (most_slots * per_slot) bytes e in
    let some : 0 < per_slot = omega arith in (
      (le-div_iff_mul-le some).1 (rw one-mul (omega arith)),
      omega (arith, (div-lt_iff_lt-mul {k = per_slot} {x = bytes + (per_slot - 1)} {y = suc most_slots} some).1 (omega arith)),
    )

-- ---- request

-- the row that a request gets
abbrev pub row_for : View → ℕ
row_for v = row_of_found (find_in v Empty)

-- the first slot that a request gets
abbrev pub run_for : ℕ → ℕ → View → Slot
run_for per_slot bytes v = start_of (lowest_run v.book (slots_for per_slot bytes))

pub record Requests (per_slot : ℕ) (wanted : Loco) (bytes : ℕ) (counter : Ticket) (v : View) : Type 0 where
  -- the loco is in range
  pub loco : (1 ≤ wanted.0) × (wanted.0 ≤ last_loco)
  -- one to six slots are needed
  pub slots : (1 ≤ slots_for per_slot bytes) × (slots_for per_slot bytes ≤ most_slots)
  -- no live row has the loco
  pub new : (i : ℕ) → i < row_count → holds_loco (row_in v i).loco wanted ≡ false
  -- an empty row is found
  pub row : row_for v < row_count
  pub empty : is_empty (row_in v (row_for v)) ≡ true
  -- a ticket is left
  pub below : counter.0 < last_ticket
  -- the slots from the start on are free
  pub run : (slot : ℕ) → InRun (run_for per_slot bytes v).0 (slots_for per_slot bytes) slot → Free v.book slot

pub requests : (per_slot : ℕ) (loco : Loco) (bytes : ℕ) (counter : Ticket) (v : View) → request_ground per_slot loco bytes counter v ≡ 0
    → Requests per_slot loco bytes counter v
unfolding request_ground is_sought
requests per_slot loco bytes counter v e =
    let p = passed-unless _ 9 _ e in
    let q = passed-unless _ 10 _ p.1 in
    let r = passed _ 11 _ q.1 in
    let s = passed-unless _ 12 _ r.1 in
    let t = passed-unless _ 13 _ s.1 in
    let u = passed-unless _ 14 _ t.1 in
    let hit = found_in_lem v Empty (row_for v) (there (find_in v Empty) s.0) in
    record {
      loco = one-to last_loco loco.0 p.0;
      slots = few-slots per_slot bytes q.0;
      new = found_nowhere v (Number loco) r.0;
      row = hit.0;
      empty = hit.1;
      below = ltb-true counter.0 last_ticket t.0;
      run = lowest-free v.book (slots_for per_slot bytes) u.0;
    }

-- ---- a train that is named

called : (loco : Loco) (ticket : Ticket) (t : Train) → is_sought (Pair loco ticket) t ≡ true → Called loco ticket t
unfolding is_sought holds_loco
called loco ticket t e =
    let outer = (and-eq-true_iff (holds_loco t.loco loco && ticket_in_range ticket) (same_ticket t.ticket ticket)).0 e in
    let inner = (and-eq-true_iff (holds_loco t.loco loco) (ticket_in_range ticket)).0 outer.0 in
    let number = (and-eq-true_iff (not (is_empty t)) (same_loco t.loco loco)).0 inner.0 in
    record {
      live = not-true (is_empty t) number.0;
      by_loco = number.1;
      by_ticket = outer.1;
    }

-- a loco and a ticket name the train in a row of the register
pub record Names (loco : Loco) (ticket : Ticket) (v : View) (n : Named) : Type 0 where
  pub row : n.row < row_count
  pub train : n.train ≡ row_in v n.row
  pub has : Called loco ticket n.train

named_row : (loco : Loco) (ticket : Ticket) (v : View) (f : Option ℕ) → find_in v (Pair loco ticket) ≡ f → (in_row loco v f).live ≡ true
    → Names loco ticket v (in_row loco v f)
unfolding in_row
named_row loco ticket v None e l = absurd (false≢true l)
named_row loco ticket v (Some row) e l =
    let hit = found_in_lem v (Pair loco ticket) row e in
    record { row = hit.0; train = refl; has = called loco ticket (row_in v row) hit.1 }

live_named : (loco : Loco) (ticket : Ticket) (v : View) → (named_in loco ticket v).live ≡ true → Names loco ticket v (named_in loco ticket v)
unfolding named_in
live_named loco ticket v = named_row loco ticket v (find_in v (Pair loco ticket)) refl

pub names : (loco : Loco) (ticket : Ticket) (v : View) (next : ℕ) → name_ground (named_in loco ticket v) next ≡ 0
    → Names loco ticket v (named_in loco ticket v) × (next ≡ 0)
unfolding name_ground
names loco ticket v next e =
    let known = passed-unless _ 15 _ (passed-unless _ 9 _ e).1 in
    (live_named loco ticket v known.0, known.1)

-- ---- SOS

-- L2 and L1 are named, and are not in one row
pub record Raises (loco2 : Loco) (ticket2 : Ticket) (loco1 : Loco) (ticket1 : Ticket) (v : View) : Type 0 where
  pub l2 : Names loco2 ticket2 v (named_in loco2 ticket2 v)
  pub l1 : Names loco1 ticket1 v (named_in loco1 ticket1 v)
  pub apart : (named_in loco2 ticket2 v).row ≡ (named_in loco1 ticket1 v).row → ⊥

pub raises : (margin grid : ℕ) (loco2 : Loco) (ticket2 : Ticket) (loco1 : Loco) (ticket1 : Ticket) (v : View)
    → sos_ground margin grid (named_in loco2 ticket2 v) (named_in loco1 ticket1 v) ≡ 0 → Raises loco2 ticket2 loco1 ticket1 v
unfolding sos_ground
raises margin grid loco2 ticket2 loco1 ticket1 v e =
    let live = passed _ 15 _ (passed _ 9 _ e).1 in
    let rows = passed _ 22 _ live.1 in
    record {
      l2 = live_named loco2 ticket2 v (both (named_in loco2 ticket2 v).live (named_in loco1 ticket1 v).live live.0).0;
      l1 = live_named loco1 ticket1 v (both (named_in loco2 ticket2 v).live (named_in loco1 ticket1 v).live live.0).1;
      apart = eqb-false _ _ rows.0;
    }
