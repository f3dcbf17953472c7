-- DEMAND 3 OF THE BYTES: after any calls with any arguments, answered and done as the contracts of the operations say (the step back is one of them;
-- that the contracts say just this is Links.antt).
use mathlib.Core.Path.{◌≡◌, refl, sym, ap, ◌∙◌, subst, subst₂}
use mathlib.Core.Bool.{cond}
use mathlib.Core.List.{List, [], ◌∷◌}
use Prim.Native.Nat.{ℕ, suc, ◌<◌}
use native.Mathlib.Omega.{arith}
use borrow.Author.Tests.{eq-eqb}
use lib.ListN.{length, get_or}
use Rattle.replay.specs.Demand3.{Call, History, standing, tickets, Starts, Made, Demand3}
use Rattle.replay.specs.Played.{calls_of, as_calls, GrantsStand, Same}
use Rattle.replay.proofs.Demand.{demand3}
use Rattle.replay.proofs.Numbered.{tickets_numbered}
use Rattle.replay.proofs.Played.{played}
use Rattle.kinds.specs.declared.Ticket.{Ticket}
use Rattle.rules.specs.Registering.{ticket_of, ticket_for}
use Rattle.order.specs.InOrder.{InOrder, start_view}
use Rattle.order.proofs.OrderLaws.{order-start, order-sound}
use Rattle.store.specs.Emptied.{emptied}
use Rattle.store.specs.Lent.{Lent}
use Rattle.store.specs.Layout.{session_bytes}
use Rattle.store.specs.Stands.{view_of, counter_of}
use Rattle.store.proofs.EmptyLaws.{emptied_lent, emptied-counter, emptied-view}
use Rattle.ledger.specs.Log.{log_of}
use Rattle.ledger.proofs.LogLaws.{emptied-log}
use Rattle.session.specs.Answers.{start_after}
use Rattle.rules.specs.Rules.{Op}
use Rattle.settings.specs.Usual.{usual}
use Rattle.standing.specs.Standing.{rules, bytes_left, session}
use Rattle.standing.specs.Calls.{history, bytes_after_all}
use Rattle.standing.specs.Functions.{start_came}
use Rattle.standing.proofs.RulesLaws.{lawful}
use Rattle.standing.proofs.KeptLaws.{kept}

-- THE THEOREM: from any lent session with a counter that fits and no entries kept
pub demand3_of_bytes : (bs after : List ℕ) (h : History (rules usual)) → Starts session bs → Made session bs h after → Demand3 session bs h after
demand3_of_bytes bs after h starts made = demand3 session (lawful usual) kept bs after h starts made

-- a law: where no grant was stepped back, the calls that stand, made from the same start, give the same view and counter
pub standing_calls_again : (bs after again : List ℕ) (h g : History (rules usual)) → Starts session bs → Made session bs h after → GrantsStand (rules usual) h
    → Made session bs g again → calls_of (rules usual) g ≡ as_calls (rules usual) (standing h) → Same session h after g again
standing_calls_again bs after again h g starts made stand play same = played session (lawful usual) kept bs after again h g starts made stand play same

-- ---- the empty session

-- a grant's ticket is the counter and one
next_one : (o : Op) (c : ℕ) → (ticket_for (ticket_of c)).0 ≡ suc c
unfolding ticket_for
next_one o c = refl

pub started_is : (bs : List ℕ) → length bs ≡ session_bytes → emptied bs ≡ start_after bs
unfolding start_after
started_is bs e = sym (λ i. cond (eq-eqb (length bs) session_bytes e i) (emptied bs) bs)

-- THE START: 24 blank rows, a free book, counter 0 and no entries
pub started_view : (bs : List ℕ) → length bs ≡ session_bytes → view_of (start_after bs) ≡ start_view
unfolding start_view
started_view bs e = ap view_of (sym (started_is bs e)) ∙ emptied-view bs e

pub started_counter : (bs : List ℕ) → length bs ≡ session_bytes → counter_of (start_after bs) ≡ ticket_of 0
started_counter bs e = ap counter_of (sym (started_is bs e)) ∙ emptied-counter bs

pub started_log : (bs : List ℕ) → length bs ≡ session_bytes → log_of (start_after bs) ≡ []
started_log bs e = ap log_of (sym (started_is bs e)) ∙ emptied-log bs

pub started_lent : (bs : List ℕ) → length bs ≡ session_bytes → Lent (start_after bs)
started_lent bs e = subst Lent (started_is bs e) (emptied_lent bs e)

-- such a view is in order, so it is sound
pub started_order : (bs : List ℕ) → length bs ≡ session_bytes → InOrder (counter_of (start_after bs)) (view_of (start_after bs))
started_order bs e = subst₂ InOrder (sym (started_counter bs e)) (sym (started_view bs e)) order-start

-- so what `start` makes of lent bytes of a session's length is a start
pub start_starts : (bs : List ℕ) → length bs ≡ session_bytes → Starts session (start_after bs)
start_starts bs e = record {
  ready = started_lent bs e;
  sound = order-sound _ _ (started_order bs e);
  fits = omega (arith, ap (λ (t : Ticket). t.0) (started_counter bs e));
  none_kept = started_log bs e;
}

-- ---- calls made one after another

-- any calls can be made, whatever the bytes
pub calls_made : (bs : List ℕ) (cs : List (Call Op)) → Made session bs (history bs cs) (bytes_after_all bs cs)
unfolding history bytes_after_all
calls_made bs [] = refl
calls_made bs (c ∷ cs) = (bytes_left bs c, (refl, refl), calls_made (bytes_left bs c) cs)

pub calls_are : (bs : List ℕ) (cs : List (Call Op)) → calls_of (rules usual) (history bs cs) ≡ cs
unfolding history
calls_are bs [] = refl
calls_are bs (c ∷ cs) = ap (λ (l : List (Call Op)). c ∷ l) (calls_are (bytes_left bs c) cs)

module _ (bs : List ℕ) (size : length bs ≡ session_bytes) (cs : List (Call Op)) where
  -- what `start` makes, and the calls that are made on it
  abbrev empty : List ℕ
  empty = (start_came bs).after

  abbrev calls : History (rules usual)
  calls = history empty cs

  -- DEMAND 3 FROM THE EMPTY SESSION, of every list of calls
  pub demand3_from_start : Demand3 session empty calls (bytes_after_all empty cs)
  demand3_from_start = demand3_of_bytes empty (bytes_after_all empty cs) calls (start_starts bs size) (calls_made empty cs)

  -- where no grant was stepped back, the calls that stand, made on the empty session, give the same view and counter
  pub standing_from_start : GrantsStand (rules usual) calls
      → Same session calls (bytes_after_all empty cs) (history empty (as_calls (rules usual) (standing calls))) (bytes_after_all empty (as_calls (rules usual) (standing calls)))
  standing_from_start stand =
      let again : List (Call Op) = as_calls (rules usual) (standing calls) in
      standing_calls_again empty (bytes_after_all empty cs) (bytes_after_all empty again) calls (history empty again) (start_starts bs size)
      (calls_made empty cs) stand (calls_made empty again) (calls_are empty again)

  -- the tickets are 1, 2, 3 and so on. Nothing cites this law
  pub tickets_from_start : (i : ℕ) → i < length (tickets (rules usual) calls) → get_or (tickets (rules usual) calls) i 0 ≡ suc i
  tickets_from_start i l =
      tickets_numbered session (lawful usual) kept (λ o c g. next_one o c) empty (bytes_after_all empty cs) calls (start_starts bs size) (calls_made empty cs) i l
      ∙ ap suc (omega (arith, ap (λ (t : Ticket). t.0) (started_counter bs size)))
