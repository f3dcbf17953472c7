-- SESSIONS IN ORDER: after any calls from `start`, step-backs included, a session is in order.
use mathlib.Core.Path.{◌≡◌, refl, sym, ap, ◌∙◌, subst, subst₂}
use mathlib.Core.Bool.{Bool, true, false, cond}
use mathlib.Core.List.{List, [], ◌∷◌}
use mathlib.Core.Logic.{⊎_elim}
use Prim.Native.Nat.{ℕ}
use native.Mathlib.Decide.{ℕ_discrete}
use lib.ListN.{length}
use Rattle.numbers.proofs.FieldLaws.{lt_or_le}
use Rattle.replay.specs.Always.{Lasts}
use Rattle.replay.specs.Rules.{accept, verdict, counter_after}
use Rattle.replay.specs.Demand3.{Call, op, back, History, Starts, Made}
use Rattle.replay.proofs.Always.{always}
use Rattle.kinds.specs.declared.Ticket.{Ticket}
use Rattle.rules.specs.Effect.{applied}
use Rattle.rules.specs.Registering.{ticket_of, ticket_for}
use Rattle.rules.specs.Rules.{Op, grants, ground_of, done_by}
use Rattle.rules.specs.View.{View}
use Rattle.rules.specs.declared.ruling.Answer.{Answer}
use Rattle.rules.specs.Ruling.{Ruling}
use Rattle.rules.specs.declared.settings.Settings.{Settings}
use Rattle.order.specs.InOrder.{InOrder}
use Rattle.order.proofs.RuleLaws.{accepted-plain, accepted_exactly, counter-done}
use Rattle.order.proofs.OrderLaws.{order-kept, order_higher}
use Rattle.store.specs.Layout.{session_bytes}
use Rattle.store.specs.Lent.{Lent}
use Rattle.store.specs.Stands.{view_of, counter_of, kept_of}
use Rattle.store.specs.Tidy.{Tidy}
use Rattle.store.proofs.TidyLaws.{emptied-tidy}
use Rattle.ledger.proofs.BackLaws.{stepped_by_lent}
use Rattle.ledger.proofs.BoundsLaws.{stepped_in_lem}
use Rattle.ledger.proofs.TidyLaws.{stepped_by-tidy}
use Rattle.judging.specs.Judged.{judged as judged_bytes}
use Rattle.session.specs.Answers.{start_after, answer_to, bytes_after}
use Rattle.settings.specs.Usual.{usual}
use Rattle.session.proofs.AfterLaws.{after_lent, after-tidy, refused-bytes}
use Rattle.stepback.proofs.BackLaws.{of-session, back_far, back_near}
use Rattle.standing.specs.Said.{Reply}
use Rattle.standing.specs.Standing.{outcome, rules, bytes_left, session}
use Rattle.standing.specs.Calls.{history, bytes_after_all}
use Rattle.standing.specs.Functions.{start_came}
use Rattle.standing.specs.Ordered.{Ordered}
use Rattle.standing.proofs.RulesLaws.{Came, came, due_rule, due-next, lawful}
use Rattle.standing.proofs.KeptLaws.{is-session, kept}
use Rattle.standing.proofs.Theorem.{start_starts, started_order, started_is, calls_made}

-- ---- counter and view

module _ (s : Settings) where
  -- where the rules accept an operation, they leave counter and view in order
  in_order_after : (o : Op) (c : ℕ) (v w : View) (r : Reply) → outcome v (due_rule s o c v) ≡ accept r w → InOrder (ticket_of c) v
      → InOrder (ticket_of (counter_after (rules s) o c)) w
  unfolding counter_after
  in_order_after o c v w r e order =
      let did : Came v (due_rule s o c v) r w = came v (due_rule s o c v) r w e in
      let next = due-next s o c v in
      let C : Ticket = ticket_of c in
      let ground : ground_of s o C v ≡ 0 =
      (accepted_exactly s o C (ticket_for C) v).0 (sym (λ i. (next.answer i).answer) ∙ did.accepted) in
      let view : applied v (done_by s o C (ticket_for C) v).effect ≡ w =
      ap (applied v) (sym (next.effect ∙ ap (λ (q : Ruling). q.effect) (accepted-plain s o C (ticket_for C) v ground))) ∙ did.view in
      subst₂ InOrder (counter-done s o C (ticket_for C) v ∙ by (grants o)) view (order-kept s o C v order ground)
    where
      by : (b : Bool) → cond b (ticket_for (ticket_of c)) (ticket_of c) ≡ ticket_of (cond b (ticket_for (ticket_of c)).0 c)
      by true = refl
      by false = refl

  -- so order lasts, step-backs included: the counter never falls, and a higher one takes nothing from it
  pub order_lasts : Lasts (rules s) (λ (c : ℕ) (v : View). InOrder (ticket_of c) v)
  unfolding verdict
  order_lasts = record {
    by_operation = λ o c v w r sound e order. in_order_after o c v w r e order;
    at_higher = λ c d v l m order. order_higher (ticket_of c) (ticket_of d) v l order;
  }

pub order-after : (bs after : List ℕ) (h : History (rules usual)) → Starts session bs → InOrder (counter_of bs) (view_of bs) → Made session bs h after
    → InOrder (counter_of after) (view_of after)
order-after bs after h starts order made =
    always session (lawful usual) kept (λ (c : ℕ) (v : View). InOrder (ticket_of c) v) (order_lasts usual) bs after h starts order made

-- ---- the bytes

-- one call leaves tidy bytes tidy
module _ (bs : List ℕ) (lent : Lent bs) (tidy : Tidy bs) where
  abbrev Left : List ℕ → Type 0
  Left after = Lent after × Tidy after

  tidy-op : (o : Op) → Left (bytes_left bs (op o))
  unfolding bytes_left answer_to
  tidy-op o = of (ℕ_discrete (judged_bytes usual bs o).answer.answer 0)
    where
      of : Dec ((judged_bytes usual bs o).answer.answer ≡ 0) → Left (bytes_after bs o)
      of (yes h) = (after_lent bs lent o h, after-tidy bs lent o h tidy)
      of (no n) =
          subst Left (sym (refused-bytes bs o (λ z. n (ap (λ (a : Answer). a.answer) (sym (of-session bs (judged_bytes usual bs o).answer (is-session bs lent))) ∙ z)))) (lent, tidy)

  tidy-back : (k : ℕ) → Left (bytes_left bs (back k))
  unfolding bytes_left
  tidy-back k =
      ⊎_elim (λ far. subst Left (back_far bs k far) (lent, tidy))
      (λ near. subst Left (sym (stepped_in_lem k bs lent.size) ∙ back_near bs k near) (stepped_by_lent k bs lent, stepped_by-tidy k bs lent tidy))
      (lt_or_le (kept_of bs) k)

  tidy-call : (c : Call Op) → Left (bytes_left bs c)
  tidy-call (op o) = tidy-op o
  tidy-call (back k) = tidy-back k

pub tidy-after : (h : History (rules usual)) (bs after : List ℕ) → Lent bs → Tidy bs → Made session bs h after → Tidy after
tidy-after [] bs after lent tidy made = subst Tidy made tidy
tidy-after (x ∷ h) bs after lent tidy made =
    let left = subst (λ (m : List ℕ). Lent m × Tidy m) (sym made.1.1) (tidy-call bs lent tidy x.call) in
    tidy-after h made.0 after left.0 left.1 made.2

-- ---- both

-- SESSIONS IN ORDER, from any start that is
pub ordered_after : (bs after : List ℕ) (h : History (rules usual)) → Starts session bs → Ordered bs → Made session bs h after → Ordered after
ordered_after bs after h starts o made = record {
  order = order-after bs after h starts o.order made;
  tidy = tidy-after h bs after starts.ready o.tidy made;
}

pub start_ordered : (bs : List ℕ) → length bs ≡ session_bytes → Ordered (start_after bs)
start_ordered bs e = record { order = started_order bs e; tidy = subst Tidy (started_is bs e) (emptied-tidy bs e) }

-- and of every list of calls on what `start` makes
pub ordered_from_start : (bs : List ℕ) → length bs ≡ session_bytes → (cs : List (Call Op)) → Ordered (bytes_after_all (start_came bs).after cs)
ordered_from_start bs e cs =
    let empty : List ℕ = start_after bs in
    ordered_after empty (bytes_after_all empty cs) (history empty cs) (start_starts bs e) (start_ordered bs e) (calls_made empty cs)
