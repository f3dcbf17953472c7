-- What answers say, and that nothing of an answer is lost in it.
use mathlib.Core.Bool.{Bool, true, false}
use mathlib.Core.Path.{◌≡◌, refl, sym, ap, ◌∙◌, subst}
use mathlib.Core.List.{List}
use mathlib.Core.Logic.{◌⊎◌, inl, inr}
use Prim.Native.Nat.{ℕ, ◌-◌, ◌≤◌, ◌<◌}
use native.Mathlib.Decide.{ℕ_discrete}
use native.Mathlib.Omega.{arith}
use borrow.Author.Tests.{eq-eqb, ne_eqb}
use Rattle.numbers.proofs.FieldLaws.{lt_or_le}
use Rattle.replay.specs.Demand3.{Call, op, back, took, went_back, refused}
use Rattle.store.specs.Layout.{is_session}
use Rattle.store.specs.Stands.{kept_of}
use Rattle.session.specs.Answers.{answer_to}
use Rattle.rules.specs.Refusals.{wrong_length, too_far_back}
use Rattle.rules.specs.Rules.{Op}
use Rattle.rules.specs.Ruling.{accepted_with, refused_with}
use Rattle.rules.specs.declared.ruling.Answer.{Answer}
use Rattle.session.proofs.OperationLaws.{answer-plain}
use Rattle.stepback.specs.Back.{back_answer}
use Rattle.stepback.proofs.BackLaws.{of_none, back_refused, back-taken}
use Rattle.standing.specs.Said.{reply_of, ticket_said, said, answer_by}
use Rattle.standing.specs.Standing.{answered}

pub said-took : (o : Op) (a : Answer) → a.answer ≡ 0 → said (op o) a ≡ took (ticket_said o a) (reply_of a)
unfolding said
said-took o a h = rw (eq-eqb a.answer 0 h)

pub said-back : (k : ℕ) (a : Answer) → a.answer ≡ 0 → said (back k) a ≡ went_back a.first
unfolding said
said-back k a h = rw (eq-eqb a.answer 0 h)

pub said-refused : (c : Call Op) (a : Answer) → (a.answer ≡ 0 → ⊥) → said c a ≡ refused a.answer
unfolding said
said-refused (op o) a h = rw (ne_eqb a.answer 0 h)
said-refused (back k) a h = rw (ne_eqb a.answer 0 h)

-- what says a refusal refuses
pub refuses : (c : Call Op) (a : Answer) (n : ℕ) → refused n ≡ said c a → a.answer ≡ 0 → ⊥
refuses (op o) a n e h = let t = said-took o a h in let z : ◌≡◌ {A = ℕ} 0 1 = cc in omega arith
refuses (back k) a n e h = let t = said-back k a h in let z : ◌≡◌ {A = ℕ} 0 1 = cc in omega arith

-- ---- nothing is lost

-- of an operation's answer
whole-op : (o : Op) (a : Answer) → ((a.answer ≡ 0 → ⊥) → a ≡ refused_with a.answer) → answer_by (said (op o) a) ≡ a
unfolding answer_by
whole-op o a plain = of (ℕ_discrete a.answer 0)
  where
    of : Dec (a.answer ≡ 0) → answer_by (said (op o) a) ≡ a
    of (yes h) = ap answer_by (said-took o a h) ∙ (λ i. record { answer = sym h i; first = a.first; second = a.second; third = a.third })
    of (no n) = ap answer_by (said-refused (op o) a n) ∙ sym (plain n)

-- of a step back's
whole-taken : (k n : ℕ) → answer_by (said (back k) (accepted_with n 0 0)) ≡ accepted_with n 0 0
unfolding answer_by
whole-taken k n = ap answer_by (said-back k (accepted_with n 0 0) refl)

whole-refused : (k ground : ℕ) → (ground ≡ 0 → ⊥) → answer_by (said (back k) (refused_with ground)) ≡ refused_with ground
unfolding answer_by
whole-refused k ground n = ap answer_by (said-refused (back k) (refused_with ground) n)

abbrev Whole : ℕ → Answer → Type 0
Whole k a = answer_by (said (back k) a) ≡ a

elsewhere : (bs : List ℕ) (k : ℕ) → is_session bs ≡ false → back_answer bs k ≡ refused_with wrong_length
unfolding back_answer
elsewhere bs k e = of_none bs _ e

whole_back : (bs : List ℕ) (k : ℕ) → Whole k (back_answer bs k)
whole_back bs k = of (is_session bs) refl (lt_or_le (kept_of bs) k)
  where
    of : (b : Bool) → is_session bs ≡ b → (kept_of bs < k) ⊎ (k ≤ kept_of bs) → Whole k (back_answer bs k)
    of true e (inl far) = subst (Whole k) (back_refused bs k e far).0 (whole-refused k too_far_back (λ z. omega arith))
    of true e (inr near) = subst (Whole k) (back-taken bs k e near).0 (whole-taken k (kept_of bs - k))
    of false e d = subst (Whole k) (sym (elsewhere bs k e)) (whole-refused k wrong_length (λ z. omega arith))

-- THE ANSWER OF A CALL is known from what it says, so two answers never say the same
pub said-whole : (bs : List ℕ) (c : Call Op) → answer_by (said c (answered bs c)) ≡ answered bs c
unfolding answered
said-whole bs (op o) = whole-op o (answer_to bs o) (answer-plain bs o)
said-whole bs (back k) = whole_back bs k
