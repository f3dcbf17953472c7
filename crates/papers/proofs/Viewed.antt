-- The examples of a session by its states, the view and the counter that its bytes stand for: these compute, and the bytes follow them.
use mathlib.Core.Path.{◌≡◌, refl, sym, ap, ◌∙◌, subst}
use mathlib.Core.Bool.{true, cond}
use mathlib.Core.List.{List, [], ◌∷◌, ◌++◌, foldl}
use Prim.Native.Nat.{ℕ}
use native.Mathlib.Decide.{ℕ_discrete}
use borrow.Author.Tests.{eq-eqb, ne_eqb}
use lib.ListN.{length}
use Rattle.kinds.specs.declared.Loco.{Loco}
use Rattle.kinds.specs.declared.Ticket.{Ticket}
use Rattle.rules.specs.Deeds.{end_asked}
use Rattle.rules.specs.Effect.{applied}
use Rattle.rules.specs.Named.{named_in}
use Rattle.rules.specs.Registering.{ticket_of, ticket_for}
use Rattle.rules.specs.Rules.{Op, rule, request}
use Rattle.rules.specs.Ruling.{accepts}
use Rattle.rules.specs.View.{View}
use Rattle.rules.specs.declared.ruling.Answer.{Answer}
use Rattle.rules.specs.Ruling.{Ruling}
use Rattle.order.specs.InOrder.{start_view}
use Rattle.store.specs.Layout.{session_bytes, is_session}
use Rattle.store.specs.Lent.{Lent}
use Rattle.store.specs.Stands.{view_of, counter_of}
use Rattle.judging.specs.Judged.{judged, end_judged}
use Rattle.session.specs.Answers.{start_after, answer_to, bytes_after, end_answer_to}
use Rattle.settings.specs.Usual.{usual}
use Rattle.session.proofs.AfterLaws.{after_lent, after-view, after-counter, refused-bytes}
use Rattle.stepback.proofs.BackLaws.{of-session}
use Rattle.standing.proofs.Theorem.{started_lent, started_view, started_counter}
use Rattle.papers.specs.Cases.{Case, reading, stepping, requesting, ending, numbers, read, step, session_after, computed}

-- all that the rules go by
pub record State : Type 0 where
  pub view : View
  pub counter : Ticket

-- what a session's bytes stand for
abbrev pub state_of : List ℕ → State
state_of bs = record { view = view_of bs; counter = counter_of bs }

-- what an empty session's do
abbrev pub empty : State
empty = record { view = start_view; counter = ticket_of 0 }

-- what the rules say of an operation
unfoldable pub ruled : State → Op → Ruling
ruled s o = rule usual o s.counter (ticket_for s.counter) s.view

-- the state with an operation taken in
abbrev pub taken : State → Op → State
taken s o = record { view = applied s.view (ruled s o).effect; counter = (ruled s o).counter }

-- the state after an operation; a refusal changes nothing
unfoldable pub after : State → Op → State
after s o = cond (accepts (ruled s o).answer) (taken s o) s

-- the answer for the end of a named train
unfoldable pub end_in : State → Loco → Ticket → Answer
end_in s loco ticket = end_asked (named_in loco ticket s.view)

-- what an example comes to, by states
unfoldable pub viewed : Case → List ℕ
viewed (reading bytes) = read bytes
viewed (stepping mode conditions) = step mode conditions
viewed (requesting loco bytes) = numbers (ruled empty (request loco bytes)).answer
viewed (ending os o loco ticket) =
    numbers (ruled (foldl after empty os) o).answer ++ numbers (end_in (after (foldl after empty os) o) loco ticket)

-- ---- the bytes follow the states

-- the bytes after operations are a session's, and stand for the state after them
record Follows (bs : List ℕ) (os : List Op) : Type 0 where
  ready : Lent (foldl bytes_after bs os)
  state : state_of (foldl bytes_after bs os) ≡ foldl after (state_of bs) os

module _ (bs : List ℕ) (ready : Lent bs) where
  whole : is_session bs ≡ true
  whole = eq-eqb _ _ ready.size

  answer-ruled : (o : Op) → answer_to bs o ≡ (ruled (state_of bs) o).answer
  unfolding answer_to judged ruled
  answer-ruled o = of-session bs _ whole

  end_in_lem : (loco : Loco) (ticket : Ticket) → end_answer_to bs loco ticket ≡ end_in (state_of bs) loco ticket
  unfolding end_answer_to end_judged end_in
  end_in_lem loco ticket = of-session bs _ whole

  -- one operation
  follows : (o : Op) → Follows bs (o ∷ [])
  unfolding after ruled judged
  follows o = of (ℕ_discrete (judged usual bs o).answer.answer 0)
    where
      of : Dec ((judged usual bs o).answer.answer ≡ 0) → Follows bs (o ∷ [])
      of (yes h) = record {
        ready = after_lent bs ready o h;
        state =
            (λ i. record { view = after-view bs ready o h i; counter = after-counter bs ready o h i })
            ∙ sym (λ i. cond (eq-eqb (judged usual bs o).answer.answer 0 h i) (taken (state_of bs) o) (state_of bs));
      }
      of (no n) =
          let same = refused-bytes bs o (λ z. n (ap (λ (a : Answer). a.answer) (sym (answer-ruled o)) ∙ z)) in
          record {
            ready = subst Lent (sym same) ready;
            state = ap state_of same ∙ sym (λ i. cond (ne_eqb (judged usual bs o).answer.answer 0 n i) (taken (state_of bs) o) (state_of bs));
          }

-- any operations
follow : (bs : List ℕ) → Lent bs → (os : List Op) → Follows bs os
follow bs ready [] = record { ready = ready; state = refl }
follow bs ready (o ∷ os) =
    let one = follows bs ready o in
    let others = follow (bytes_after bs o) one.ready os in
    record { ready = others.ready; state = others.state ∙ ap (λ (s : State). foldl after s os) one.state }

-- ---- from the empty session

module _ (lent : List ℕ) (size : length lent ≡ session_bytes) where
  start-ready : Lent (start_after lent)
  start-ready = started_lent lent size

  start-empty : state_of (start_after lent) ≡ empty
  start-empty = λ i. record { view = started_view lent size i; counter = started_counter lent size i }

  -- it is what it comes to, in whatever bytes
  pub by_states : (c : Case) → computed lent c ≡ viewed c
  unfolding computed viewed
  by_states (reading bytes) = refl
  by_states (stepping mode conditions) = refl
  by_states (requesting loco bytes) =
      ap numbers (answer-ruled (start_after lent) start-ready (request loco bytes) ∙ ap (λ (s : State). (ruled s (request loco bytes)).answer) start-empty)
  by_states (ending os o loco ticket) =
      let bs : List ℕ = session_after lent os in
      let before = follow (start_after lent) start-ready os in
      let last = follows bs before.ready o in
      let here : state_of bs ≡ foldl after empty os = before.state ∙ ap (λ (s : State). foldl after s os) start-empty in
      let answer = answer-ruled bs before.ready o ∙ ap (λ (s : State). (ruled s o).answer) here in
      let there : state_of (bytes_after bs o) ≡ after (foldl after empty os) o = last.state ∙ ap (λ (s : State). after s o) here in
      let end = end_in_lem (bytes_after bs o) last.ready loco ticket ∙ ap (λ (s : State). end_in s loco ticket) there in
      λ i. numbers (answer i) ++ numbers (end i)
