-- How an operation ends: a session of another length, a refusal, or an effect taken in.
use mathlib.Core.Path.{◌≡◌, refl, sym, ap, ◌∙◌, subst}
use mathlib.Core.Bool.{Bool, true, false, cond, ◌&&◌}
use mathlib.Core.List.{List}
use Prim.Native.Nat.{ℕ}
use borrow.Author.Tests.{eq-eqb, ne_eqb}
use Rattle.rules.specs.Registering.{ticket_for}
use Rattle.rules.specs.Rules.{Op, ground_of}
use Rattle.rules.specs.Ruling.{refused_with, accepts}
use Rattle.rules.specs.declared.ruling.Answer.{Answer}
use Rattle.rules.specs.Ruling.{Ruling}
use Rattle.rules.specs.declared.settings.Settings.{Settings}
use Rattle.order.proofs.RuleLaws.{refused-plain, accepted_exactly}
use Rattle.store.specs.Layout.{is_session}
use Rattle.store.specs.Stands.{view_of, counter_of}
use Rattle.entries.specs.Kept.{in_bounds}
use Rattle.ledger.specs.Settled.{settled, settled_in}
use Rattle.judging.specs.Judged.{judged}
use Rattle.session.specs.Answers.{taken, answer_to, bytes_after}
use Rattle.settings.specs.Usual.{usual}
use Rattle.stepback.specs.Back.{of_session}
use Rattle.stepback.proofs.BackLaws.{of-session, of_none}

-- ---- a ruling

-- one that is taken in, one that is refused, and one on bytes that are no session
pub taken_in : (bs : List ℕ) (r : Ruling) → r.answer.answer ≡ 0 → settled_in bs r.counter r.effect ≡ taken bs r
unfolding taken
taken_in bs r e = sym (λ i. cond (eq-eqb r.answer.answer 0 e i) (settled_in bs r.counter r.effect) bs)

pub not_taken : (bs : List ℕ) (r : Ruling) → (r.answer.answer ≡ 0 → ⊥) → bs ≡ taken bs r
unfolding taken
not_taken bs r e = sym (λ i. cond (ne_eqb r.answer.answer 0 e i) (settled_in bs r.counter r.effect) bs)

pub taken_elsewhere : (bs : List ℕ) (r : Ruling) → is_session bs ≡ false → bs ≡ taken bs r
unfolding taken settled_in
taken_elsewhere bs r e = go (accepts r.answer)
  where
    go : (b : Bool) → bs ≡ cond b (cond (is_session bs && in_bounds r.effect) (settled bs r.counter r.effect) bs) bs
    go true = sym (λ i. cond (e i && in_bounds r.effect) (settled bs r.counter r.effect) bs)
    go false = refl

-- what is committed is the operation's answer and bytes
pub committed : (bs : List ℕ) (o : Op) (s : Settings) (r : Ruling) (a : Answer) (after : List ℕ) → s ≡ usual → r ≡ judged s bs o
    → a ≡ of_session bs r.answer → after ≡ taken bs r → (a ≡ answer_to bs o) × (after ≡ bytes_after bs o)
unfolding answer_to bytes_after
committed bs o s r a after es er ea eb =
    let e : r ≡ judged usual bs o = er ∙ ap (λ (x : Settings). judged x bs o) es in
    (ea ∙ ap (λ (q : Ruling). of_session bs q.answer) e, eb ∙ ap (taken bs) e)

-- ---- refusals

-- an answer that refuses is its ground's number, with zeros
abbrev pub Plain : Answer → Type 0
Plain a = (a.answer ≡ 0 → ⊥) → a ≡ refused_with a.answer

judged-plain : (bs : List ℕ) (o : Op) → Plain (judged usual bs o).answer
unfolding judged
judged-plain bs o n =
    let c = counter_of bs in
    let v = view_of bs in
    let ground : ground_of usual o c v ≡ 0 → ⊥ = λ e. n ((accepted_exactly usual o c (ticket_for c) v).1 e) in
    subst (λ (a : Answer). a ≡ refused_with a.answer) (sym (ap (λ (r : Ruling). r.answer) (refused-plain usual o c (ticket_for c) v ground))) refl

of_plain : (b : Bool) (bs : List ℕ) (a : Answer) → is_session bs ≡ b → Plain a → Plain (of_session bs a)
of_plain true bs a e p = subst Plain (sym (of-session bs a e)) p
of_plain false bs a e p = subst Plain (sym (of_none bs a e)) (λ n. refl)

-- EVERY REFUSAL has zeros, whatever the operation and the lent bytes
pub answer-plain : (bs : List ℕ) (o : Op) → Plain (answer_to bs o)
unfolding answer_to
answer-plain bs o = of_plain (is_session bs) bs (judged usual bs o).answer refl (judged-plain bs o)
