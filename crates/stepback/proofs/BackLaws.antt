-- Bytes that are a session, or not; a step back too far, and one that is taken.
use mathlib.Core.Path.{◌≡◌, refl, sym, ap, ◌∙◌}
use mathlib.Core.Bool.{Bool, true, false, cond}
use mathlib.Core.List.{List}
use mathlib.Core.Logic.{◌⊎◌, inl, inr}
use Prim.Native.Nat.{ℕ, ◌-◌, ◌<◌, ◌≤◌}
use borrow.Author.Tests.{lt-ltb, le-ltb}
use lib.Dec.{ltb}
use Rattle.numbers.proofs.FieldLaws.{lt_or_le}
use Rattle.rules.specs.Refusals.{wrong_length, too_far_back}
use Rattle.rules.specs.Ruling.{accepted_with, refused_with}
use Rattle.rules.specs.declared.ruling.Answer.{Answer}
use Rattle.store.specs.Layout.{is_session}
use Rattle.store.specs.Stands.{kept_of}
use Rattle.ledger.specs.Back.{stepped_by, stepped_in}
use Rattle.stepback.specs.Back.{of_session, back_answer, back_after}

-- the lent bytes are a session, or not
pub of-session : (bs : List ℕ) (a : Answer) → is_session bs ≡ true → of_session bs a ≡ a
unfolding of_session
of-session bs a e = λ i. cond (e i) a (refused_with wrong_length)

pub of_none : (bs : List ℕ) (a : Answer) → is_session bs ≡ false → of_session bs a ≡ refused_with wrong_length
unfolding of_session
of_none bs a e = λ i. cond (e i) a (refused_with wrong_length)

-- ---- a step back too far, and one that is taken

module _ (bs : List ℕ) (k : ℕ) where
  far_answer : kept_of bs < k → refused_with too_far_back ≡ cond (ltb (kept_of bs) k) (refused_with too_far_back) (accepted_with (kept_of bs - k) 0 0)
  far_answer far = sym (λ i. cond (lt-ltb (kept_of bs) k far i) (refused_with too_far_back) (accepted_with (kept_of bs - k) 0 0))

  near_answer : k ≤ kept_of bs → accepted_with (kept_of bs - k) 0 0 ≡ cond (ltb (kept_of bs) k) (refused_with too_far_back) (accepted_with (kept_of bs - k) 0 0)
  near_answer near = sym (λ i. cond (le-ltb (kept_of bs) k near i) (refused_with too_far_back) (accepted_with (kept_of bs - k) 0 0))

  pub back_far : kept_of bs < k → bs ≡ back_after bs k
  unfolding back_after
  back_far far = sym (λ i. cond (lt-ltb (kept_of bs) k far i) bs (stepped_in k bs))

  pub back_near : k ≤ kept_of bs → stepped_in k bs ≡ back_after bs k
  unfolding back_after
  back_near near = sym (λ i. cond (le-ltb (kept_of bs) k near i) bs (stepped_in k bs))

  -- bytes that are no session stay
  pub back_elsewhere : is_session bs ≡ false → bs ≡ back_after bs k
  unfolding back_after stepped_in
  back_elsewhere e = go (ltb (kept_of bs) k)
    where
      go : (b : Bool) → bs ≡ cond b bs (stepped_in k bs)
      go true = refl
      go false = sym (λ i. cond (e i) (stepped_by k bs) bs)

  module _ (e : is_session bs ≡ true) where
    pub back_refused : kept_of bs < k → (refused_with too_far_back ≡ back_answer bs k) × (bs ≡ back_after bs k)
    unfolding back_answer
    back_refused far = (far_answer far ∙ sym (of-session bs _ e), back_far far)

    pub back-taken : k ≤ kept_of bs → (accepted_with (kept_of bs - k) 0 0 ≡ back_answer bs k) × (stepped_in k bs ≡ back_after bs k)
    unfolding back_answer
    back-taken near = (near_answer near ∙ sym (of-session bs _ e), back_near near)

-- a step back that is refused leaves every byte as it was, whatever bytes they are
pub refused-back : (bs : List ℕ) (k : ℕ) → ((back_answer bs k).answer ≡ 0 → ⊥) → back_after bs k ≡ bs
refused-back bs k h = of (is_session bs) refl (lt_or_le (kept_of bs) k)
  where
    of : (b : Bool) → is_session bs ≡ b → (kept_of bs < k) ⊎ (k ≤ kept_of bs) → back_after bs k ≡ bs
    of true e (inl far) = sym (back_far bs k far)
    of true e (inr near) = absurd (h (ap (λ (a : Answer). a.answer) (sym (back-taken bs k e near).0)))
    of false e d = sym (back_elsewhere bs k e)
