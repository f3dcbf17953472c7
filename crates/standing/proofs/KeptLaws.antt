-- The contracts of the operations do to lent bytes what the machine of demand 3 does to what they stand for.
use mathlib.Core.Path.{◌≡◌, refl, sym, ap, ◌∙◌, subst, subst₂}
use mathlib.Core.Bool.{Bool, true, false, cond}
use mathlib.Core.List.{List, [], ◌∷◌}
use mathlib.Core.Logic.{⊎_elim}
use Prim.Native.Nat.{ℕ, suc, ◌-◌, ◌≤◌, ◌<◌}
use native.Mathlib.Decide.{ℕ_discrete}
use native.Mathlib.Omega.{arith}
use borrow.Author.Tests.{le-leb, lt-leb, eq-eqb}
use lib.Dec.{leb}
use lib.ListN.{length, take}
use Rattle.numbers.proofs.FieldLaws.{lt_or_le}
use Rattle.replay.specs.Rules.{accept, refuse, just_below, ticket_due, verdict as outcome_of, counter_after}
use Rattle.replay.specs.Demand3.{Call, op, back, Answer as Words, took, went_back, refused, State, depth}
use Rattle.replay.specs.Demand3.{op_answer, back_answer as back_words}
use Rattle.replay.specs.Machine.{acted, undo_all, undone as wound, step}
use Rattle.replay.specs.Kept.{Steps, Kept}
use Rattle.ring.proofs.Rings.{length-read_back}
use Rattle.kinds.specs.declared.Ticket.{Ticket}
use Rattle.rules.specs.Effect.{applied}
use Rattle.rules.specs.Refusals.{too_far_back}
use Rattle.rules.specs.Registering.{ticket_of, ticket_for}
use Rattle.rules.specs.Rules.{Op, grants, rule}
use Rattle.rules.specs.Ruling.{accepted_with, refused_with}
use Rattle.rules.specs.View.{View}
use Rattle.rules.specs.declared.effect.Effect.{Effect}
use Rattle.rules.specs.declared.ruling.Answer.{Answer}
use Rattle.order.proofs.RuleLaws.{grant-told}
use Rattle.store.specs.Layout.{is_session}
use Rattle.store.specs.Lent.{Lent}
use Rattle.store.specs.Stands.{view_of, counter_of, kept_of, head_of}
use Rattle.ledger.specs.Back.{stepped_by}
use Rattle.entries.specs.Entry.{Entry, saved, undone}
use Rattle.ledger.specs.Log.{entry_in, log_of}
use Rattle.ledger.proofs.BackLaws.{undone_all, stepped_by_lent, stepped_by-view, stepped_by-counter, stepped_by-log}
use Rattle.ledger.proofs.BoundsLaws.{stepped_in_lem}
use Rattle.judging.specs.Judged.{judged}
use Rattle.session.specs.Answers.{answer_to, bytes_after}
use Rattle.settings.specs.Usual.{usual}
use Rattle.session.proofs.AfterLaws.{no_ground, counter-is, after_lent, after-view, after-counter, after-log, refused-bytes}
use Rattle.stepback.specs.Back.{back_after}
use Rattle.stepback.proofs.BackLaws.{refused-back, of-session, back_refused, back-taken}
use Rattle.standing.specs.Said.{Reply, reply_of, ticket_said, said}
use Rattle.standing.specs.Standing.{outcome, rules, answered, bytes_left, session}
use Rattle.standing.proofs.RulesLaws.{outcome-accepted, outcome-refused, outcome_alike, due-grant, due-next, due_again}
use Rattle.standing.proofs.SaidLaws.{said-took, said-back, said-refused, refuses}

-- what the bytes stand for
abbrev state : List ℕ → State View Entry
state bs = record { view = view_of bs; counter = (counter_of bs).0; log = log_of bs }

-- the answer and the bytes of a call's contract are the machine's
abbrev Does : List ℕ → Call Op → Type 0
Does bs c = Steps session bs c (said c (answered bs c)) (bytes_left bs c)

-- bytes that are lent as a session are one
pub is-session : (bs : List ℕ) → Lent bs → is_session bs ≡ true
is-session bs lent = eq-eqb _ _ lent.size

-- ---- an operation

module _ (bs : List ℕ) (lent : Lent bs) (o : Op) where
  counter : ℕ
  counter = (counter_of bs).0

  -- the ticket that is due
  due : ℕ
  due = ticket_due (rules usual) o (counter_of bs).0

  outcome-is : outcome_of (rules usual) o (counter_of bs).0 (view_of bs) ≡ outcome (view_of bs) (judged usual bs o)
  unfolding outcome_of judged
  outcome-is = outcome_alike (view_of bs) _ _ (due-next usual o (counter_of bs).0 (view_of bs))

  answer-is : answer_to bs o ≡ (judged usual bs o).answer
  unfolding answer_to
  answer-is = of-session bs _ (is-session bs lent)

  module _ (h : (judged usual bs o).answer.answer ≡ 0) where
    taken : outcome_of (rules usual) o (counter_of bs).0 (view_of bs)
        ≡ accept (reply_of (judged usual bs o).answer) (applied (view_of bs) (judged usual bs o).effect)
    taken = outcome-is ∙ outcome-accepted (view_of bs) (judged usual bs o) h

    -- what the log keeps is what the rules' own entry is
    effect-due : (judged usual bs o).effect ≡ (rule usual o (ticket_of (just_below (ticket_due (rules usual) o (counter_of bs).0))) (ticket_of (ticket_due (rules usual) o (counter_of bs).0)) (view_of bs)).effect
    unfolding judged
    effect-due =
        sym (due-next usual o (counter_of bs).0 (view_of bs)).effect
        ∙ sym (due_again usual o (counter_of bs).0 (view_of bs) (no_ground bs lent o h)).effect

    counter-due : (judged usual bs o).counter.0 ≡ counter_after (rules usual) o (counter_of bs).0
    unfolding counter_after ticket_for
    counter-due = ap (λ (t : Ticket). t.0) (counter-is bs lent o h) ∙ by (grants o)
      where
        by : (b : Bool) → (cond b (ticket_for (counter_of bs)) (counter_of bs)).0 ≡ cond b (ticket_for (ticket_of (counter_of bs).0)).0 (counter_of bs).0
        by true = refl
        by false = refl

    state-after : state (bytes_after bs o)
        ≡ acted (rules usual) o (state bs) (accept (reply_of (judged usual bs o).answer) (applied (view_of bs) (judged usual bs o).effect))
    unfolding acted
    state-after = λ i. record {
      view = after-view bs lent o h i;
      counter = (ap (λ (t : Ticket). t.0) (after-counter bs lent o h) ∙ counter-due) i;
      log = (after-log bs lent o h ∙ ap (λ (e : Effect). take depth (saved (view_of bs) e ∷ log_of bs)) effect-due) i;
    }

    ticket-due : ticket_said o (judged usual bs o).answer ≡ ticket_due (rules usual) o (counter_of bs).0
    unfolding judged ticket_for ticket_due
    ticket-due = by (grants o) refl
      where
        by : (b : Bool) → grants o ≡ b → cond b (judged usual bs o).answer.first 0 ≡ ticket_due (rules usual) o (counter_of bs).0
        by true g =
            grant-told usual o (counter_of bs) (ticket_for (counter_of bs)) (view_of bs) (no_ground bs lent o h) g
            ∙ sym (due-grant usual o (counter_of bs).0 g)
        by false g = sym (λ i. cond (g i) (suc (counter_of bs).0) 0)

    op-taken : Does bs (op o)
    unfolding step answered bytes_left op_answer
    op-taken = record {
      ready = after_lent bs lent o h;
      state = state-after ∙ ap (acted (rules usual) o (state bs)) (sym taken);
      answer =
          ap (said (op o)) answer-is ∙ said-took o (judged usual bs o).answer h
          ∙ ap (λ (t : ℕ). took t (reply_of (judged usual bs o).answer)) ticket-due
          ∙ ap (op_answer (ticket_due (rules usual) o (counter_of bs).0)) (sym taken);
    }

  module _ (h : (judged usual bs o).answer.answer ≡ 0 → ⊥) where
    not_taken : outcome_of (rules usual) o (counter_of bs).0 (view_of bs) ≡ refuse (judged usual bs o).answer.answer
    not_taken = outcome-is ∙ outcome-refused (view_of bs) (judged usual bs o) h

    same : bytes_after bs o ≡ bs
    same = refused-bytes bs o (λ z. h (ap (λ (a : Answer). a.answer) (sym answer-is) ∙ z))

    op-refused : Does bs (op o)
    unfolding step answered bytes_left op_answer acted
    op-refused = record {
      ready = subst Lent (sym same) lent;
      state = ap state same ∙ ap (acted (rules usual) o (state bs)) (sym not_taken);
      answer =
          ap (said (op o)) answer-is ∙ said-refused (op o) (judged usual bs o).answer h
          ∙ ap (op_answer (ticket_due (rules usual) o (counter_of bs).0)) (sym not_taken);
    }

-- ---- a step back

-- entries undone one after another, as the machine does it
undone-all : (es : List Entry) (v : View) → undone_all es v ≡ undo_all (rules usual) es v
unfolding undone_all undo_all
undone-all [] v = refl
undone-all (e ∷ es) v = undone-all es (undone e v)

-- as many entries are in the log as are kept
log-kept : (bs : List ℕ) → length (log_of bs) ≡ kept_of bs
log-kept bs = length-read_back depth (entry_in bs) (head_of bs) (kept_of bs)

module _ (bs : List ℕ) (lent : Lent bs) (k : ℕ) where
  back_far : kept_of bs < k → Does bs (back k)
  unfolding step answered bytes_left back_words
  back_far far =
      let b = back_refused bs k (is-session bs lent) far in
      let t : leb k (length (log_of bs)) ≡ false = lt-leb k (length (log_of bs)) (rw (log-kept bs) far) in
      record {
        ready = subst Lent b.1 lent;
        state = ap state (sym b.1) ∙ sym (λ i. cond (t i) (wound (rules usual) k (state bs)) (state bs));
        answer =
            ap (said (back k)) (sym b.0) ∙ said-refused (back k) (refused_with too_far_back) (λ z. omega arith)
            ∙ sym (λ i. cond (t i) (went_back (length (log_of bs) - k)) (refused too_far_back));
      }

  state-back : k ≤ kept_of bs → state (stepped_by k bs) ≡ wound (rules usual) k (state bs)
  unfolding wound
  state-back near = λ i. record {
    view = (stepped_by-view k bs lent near ∙ undone-all (take k (log_of bs)) (view_of bs)) i;
    counter = (stepped_by-counter k bs lent i).0;
    log = stepped_by-log k bs lent near i;
  }

  back_near : k ≤ kept_of bs → Does bs (back k)
  unfolding step answered bytes_left back_words
  back_near near =
      let b = back-taken bs k (is-session bs lent) near in
      let left : stepped_by k bs ≡ back_after bs k = sym (stepped_in_lem k bs lent.size) ∙ b.1 in
      let t : leb k (length (log_of bs)) ≡ true = le-leb k (length (log_of bs)) (rw (log-kept bs) near) in
      record {
        ready = subst Lent left (stepped_by_lent k bs lent);
        state = ap state (sym left) ∙ state-back near ∙ sym (λ i. cond (t i) (wound (rules usual) k (state bs)) (state bs));
        answer =
            ap (said (back k)) (sym b.0) ∙ said-back k (accepted_with (kept_of bs - k) 0 0) refl
            ∙ ap (λ (n : ℕ). went_back (n - k)) (sym (log-kept bs))
            ∙ sym (λ i. cond (t i) (went_back (length (log_of bs) - k)) (refused too_far_back));
      }

-- ---- every call

steps_at : (bs : List ℕ) (c : Call Op) → Lent bs → Does bs c
steps_at bs (op o) lent = of (ℕ_discrete (judged usual bs o).answer.answer 0)
  where
    of : Dec ((judged usual bs o).answer.answer ≡ 0) → Does bs (op o)
    of (yes h) = op-taken bs lent o h
    of (no h) = op-refused bs lent o h
steps_at bs (back k) lent = ⊎_elim (back_far bs lent k) (back_near bs lent k) (lt_or_le (kept_of bs) k)

refused-left : (bs : List ℕ) (c : Call Op) → ((answered bs c).answer ≡ 0 → ⊥) → bytes_left bs c ≡ bs
unfolding answered bytes_left
refused-left bs (op o) h = refused-bytes bs o h
refused-left bs (back k) h = refused-back bs k h

-- THE CONTRACTS DO WHAT THE MACHINE DOES
pub kept : Kept session
kept =
    record {
      steps = λ bs c a after lent sound did.
          subst₂ (λ (x : Words Reply) (y : List ℕ). Steps session bs c x y) (sym did.0) (sym did.1) (steps_at bs c lent);
      refusal_same = λ bs c n after did. did.1 ∙ refused-left bs c (refuses c (answered bs c) n did.0);
    }
