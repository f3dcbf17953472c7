-- LAWS OF THE VIEW: what an operation that is accepted leaves in a session's bytes, and that one that is refused leaves every byte as it was.
use mathlib.Core.Path.{◌≡◌, refl, sym, ap, ◌∙◌, subst}
use mathlib.Core.Bool.{Bool, true, false, cond}
use mathlib.Core.List.{List, ◌∷◌}
use mathlib.Core.Logic.{⊎_elim}
use Prim.Native.Nat.{ℕ, suc, ◌^◌, ◌<◌, min}
use native.Mathlib.Omega.{arith}
use lib.ListN.{take}
use Rattle.numbers.proofs.FieldLaws.{lt_or_le}
use Rattle.numbers.proofs.NumberLaws.{number_lt}
use Rattle.replay.specs.Demand3.{depth}
use Rattle.trains.specs.Sought.{row_count}
use Rattle.kinds.specs.declared.Ticket.{Ticket}
use Rattle.rules.specs.Effect.{applied}
use Rattle.rules.specs.Registering.{ticket_for}
use Rattle.rules.specs.Rules.{Op, grants, ground_of, done_by}
use Rattle.rules.specs.declared.effect.Effect.{Effect}
use Rattle.rules.specs.declared.ruling.Answer.{Answer}
use Rattle.rules.specs.Ruling.{Ruling}
use Rattle.order.proofs.RuleLaws.{accepted-plain, accepted_exactly, counter-after, grant_below}
use Rattle.store.specs.Layout.{counter_at, is_session}
use Rattle.store.specs.Lent.{Lent}
use Rattle.store.specs.Stands.{view_of, counter_of, kept_of}
use Rattle.store.specs.Tidy.{Tidy}
use Rattle.store.proofs.ViewLaws.{view-fits, view_row_past}
use Rattle.entries.specs.Entry.{saved}
use Rattle.ledger.specs.Log.{log_of}
use Rattle.ledger.specs.Settled.{settled}
use Rattle.ledger.proofs.BoundsLaws.{settled_in_lem}
use Rattle.ledger.proofs.SettledLaws.{EffectFits, settled_lent, settled-view, settled-counter, settled-kept, settled-log}
use Rattle.ledger.proofs.TidyLaws.{settled-tidy}
use Rattle.judging.specs.Judged.{judged}
use Rattle.session.specs.Answers.{answer_to, bytes_after}
use Rattle.settings.specs.Usual.{usual}
use Rattle.stepback.proofs.BackLaws.{of-session}
use Rattle.session.proofs.FitLaws.{Fitted, fits-blank, fitting}
use Rattle.session.proofs.OperationLaws.{taken_in, not_taken, taken_elsewhere}

-- the trains in a session's bytes fit their rows
pub fitted_bytes : (bs : List ℕ) → Fitted (view_of bs)
fitted_bytes bs i = ⊎_elim (λ l. view-fits bs i l) (λ l. rw (view_row_past bs i l) fits-blank) (lt_or_le i row_count)

-- ---- an operation that is accepted

module _ (bs : List ℕ) (lent : Lent bs) (o : Op) (h : (judged usual bs o).answer.answer ≡ 0) where
  -- there is no ground
  pub no_ground : ground_of usual o (counter_of bs) (view_of bs) ≡ 0
  unfolding judged
  no_ground = (accepted_exactly usual o (counter_of bs) (ticket_for (counter_of bs)) (view_of bs)).0 h

  -- and the ruling is what the operation does
  pub judged-is : judged usual bs o ≡ done_by usual o (counter_of bs) (ticket_for (counter_of bs)) (view_of bs)
  unfolding judged
  judged-is = accepted-plain usual o (counter_of bs) (ticket_for (counter_of bs)) (view_of bs) no_ground

  effect : Effect
  effect = (judged usual bs o).effect

  counter : Ticket
  counter = (judged usual bs o).counter

  fits : EffectFits effect
  unfolding effect
  fits = subst (λ (r : Ruling). EffectFits r.effect) (sym judged-is) (fitting usual (counter_of bs) (view_of bs) (fitted_bytes bs) o no_ground)

  after_is : bytes_after bs o ≡ settled bs counter effect
  unfolding bytes_after effect counter
  after_is = sym (taken_in bs (judged usual bs o) h) ∙ settled_in_lem bs counter effect lent.size fits.bounds

  -- the counter is the ticket of a grant, and stays otherwise
  pub counter-is : (judged usual bs o).counter ≡ cond (grants o) (ticket_for (counter_of bs)) (counter_of bs)
  unfolding judged
  counter-is = counter-after usual o (counter_of bs) (ticket_for (counter_of bs)) (view_of bs) no_ground

  counter-small : counter.0 < 2 ^ 32
  unfolding counter ticket_for
  counter-small = rw counter-is (by (grants o) refl)
    where
      by : (b : Bool) → grants o ≡ b → (cond b (ticket_for (counter_of bs)) (counter_of bs)).0 < 2 ^ 32
      by true g = omega (arith, grant_below usual o (counter_of bs) (ticket_for (counter_of bs)) (view_of bs) no_ground g)
      by false g = number_lt 4 bs counter_at

  pub after_lent : Lent (bytes_after bs o)
  after_lent = rw after_is (settled_lent bs lent counter effect fits)

  -- the view is the ruling's effect on the view before
  pub after-view : view_of (bytes_after bs o) ≡ applied (view_of bs) (judged usual bs o).effect
  unfolding effect
  after-view = ap view_of after_is ∙ settled-view bs lent counter effect fits

  -- the counter is the ruling's
  pub after-counter : counter_of (bytes_after bs o) ≡ (judged usual bs o).counter
  unfolding counter
  after-counter = ap counter_of after_is ∙ settled-counter bs lent counter effect fits counter-small

  -- one more entry is kept, up to the log's depth
  pub after_kept : kept_of (bytes_after bs o) ≡ min depth (suc (kept_of bs))
  after_kept = ap kept_of after_is ∙ settled-kept bs lent counter effect fits

  -- what undoes the effect is on top of the log
  pub after-log : log_of (bytes_after bs o) ≡ take depth (saved (view_of bs) (judged usual bs o).effect ∷ log_of bs)
  unfolding effect
  after-log = ap log_of after_is ∙ settled-log bs lent counter effect fits

  -- tidy bytes stay tidy
  pub after-tidy : Tidy bs → Tidy (bytes_after bs o)
  after-tidy tidy = rw after_is (settled-tidy bs lent counter effect fits tidy)

-- ---- a call that is refused

-- an operation that is refused leaves every byte as it was, whatever bytes they are
pub refused-bytes : (bs : List ℕ) (o : Op) → ((answer_to bs o).answer ≡ 0 → ⊥) → bytes_after bs o ≡ bs
unfolding answer_to bytes_after
refused-bytes bs o h = of (is_session bs) refl
  where
    of : (b : Bool) → is_session bs ≡ b → bytes_after bs o ≡ bs
    of true e = sym (not_taken bs (judged usual bs o) (λ z. h (ap (λ (a : Answer). a.answer) (of-session bs _ e) ∙ z)))
    of false e = sym (taken_elsewhere bs (judged usual bs o) e)
