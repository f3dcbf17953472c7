-- Two sessions with the same view, counter and entries kept answer alike: every question, and every call.
use mathlib.Core.Path.{◌≡◌, sym, ap, ◌∙◌}
use mathlib.Core.Bool.{cond}
use mathlib.Core.List.{List}
use Prim.Native.Nat.{ℕ, ◌-◌}
use borrow.Author.Tests.{eq-eqb}
use lib.Dec.{ltb}
use Rattle.numbers.specs.Numbers.{one_if}
use Rattle.kinds.specs.declared.Loco.{Loco}
use Rattle.kinds.specs.declared.Slot.{Slot}
use Rattle.kinds.specs.declared.Ticket.{Ticket}
use Rattle.replay.specs.Demand3.{Call, op, back}
use Rattle.rules.specs.Deeds.{end_asked}
use Rattle.rules.specs.Named.{named_in}
use Rattle.rules.specs.Refusals.{wrong_length, too_far_back}
use Rattle.rules.specs.Registering.{ticket_for}
use Rattle.rules.specs.Rules.{Op, rule}
use Rattle.rules.specs.Ruling.{accepted_with, refused_with}
use Rattle.rules.specs.View.{View, row_in, is_taken}
use Rattle.rules.specs.declared.ruling.Answer.{Answer}
use Rattle.store.specs.Layout.{is_session}
use Rattle.store.specs.Lent.{Lent}
use Rattle.store.specs.Stands.{view_of, book_of, counter_of, kept_of}
use Rattle.store.proofs.RegisterLaws.{view-book}
use Rattle.judging.specs.Judged.{judged, end_judged}
use Rattle.session.specs.Answers.{answer_to, end_answer_to}
use Rattle.stepback.specs.Back.{of_session, back_answer}
use Rattle.settings.specs.Usual.{usual}
use Rattle.standing.specs.Standing.{answered}
use Rattle.host.specs.Told.{number_answer, train_told, train_refused, train_answer}

-- two sessions that stand for the same
pub record Same (a b : List ℕ) : Type 0 where
  pub first : Lent a
  pub second : Lent b
  pub view : view_of a ≡ view_of b
  pub counter : counter_of a ≡ counter_of b
  pub kept : kept_of a ≡ kept_of b

module _ (a b : List ℕ) (same : Same a b) where
  length_test : is_session a ≡ is_session b
  length_test = eq-eqb _ _ same.first.size ∙ sym (eq-eqb _ _ same.second.size)

  of-same : (x y : Answer) → x ≡ y → of_session a x ≡ of_session b y
  unfolding of_session
  of-same x y e = λ i. cond (length_test i) (e i) (refused_with wrong_length)

  -- kb_counter, kb_kept and kb_is_taken
  pub same-counter : number_answer a (counter_of a).0 ≡ number_answer b (counter_of b).0
  unfolding number_answer
  same-counter = of-same _ _ (ap (λ (t : Ticket). accepted_with t.0 0 0) same.counter)

  pub same_kept : number_answer a (kept_of a) ≡ number_answer b (kept_of b)
  unfolding number_answer
  same_kept = of-same _ _ (ap (λ (n : ℕ). accepted_with n 0 0) same.kept)

  pub same_taken : (slot : Slot) → number_answer a (one_if (is_taken (book_of a) slot)) ≡ number_answer b (one_if (is_taken (book_of b) slot))
  unfolding number_answer
  same_taken slot =
      let book : book_of a ≡ book_of b = sym (view-book a) ∙ ap (λ (v : View). v.book) same.view ∙ view-book b in
      of-same _ _ (ap (λ (x : List ℕ). accepted_with (one_if (is_taken x slot)) 0 0) book)

  -- kb_end and kb_train
  pub same_end : (loco : Loco) (ticket : Ticket) → end_answer_to a loco ticket ≡ end_answer_to b loco ticket
  unfolding end_answer_to end_judged
  same_end loco ticket = of-same _ _ (ap (λ (v : View). end_asked (named_in loco ticket v)) same.view)

  pub same-train : (row : ℕ) → train_answer a row ≡ train_answer b row
  unfolding train_answer
  same-train row = λ i. cond (length_test i) (train_told (row_in (same.view i) row)) (train_refused wrong_length)

  -- and the answer of whatever call comes next
  pub same_answer : (c : Call Op) → answered a c ≡ answered b c
  unfolding answered answer_to judged back_answer
  same_answer (op o) = of-same _ _ (λ i. (rule usual o (same.counter i) (ticket_for (same.counter i)) (same.view i)).answer)
  same_answer (back k) =
      of-same _ _ (ap (λ (n : ℕ). cond (ltb n k) (refused_with too_far_back) (accepted_with (n - k) 0 0)) same.kept)
