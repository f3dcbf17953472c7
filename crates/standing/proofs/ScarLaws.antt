-- THE SCAR, of the bytes of a session in order: a release takes away its own train and nothing else, a loco and a ticket name one train at most, a
-- ticket that was not issued yet names none, and a release that names none is refused.
use mathlib.Core.Path.{◌≡◌, sym, ap, ◌∙◌, subst}
use mathlib.Core.List.{List}
use Prim.Native.Nat.{ℕ, ◌<◌}
use Rattle.kinds.specs.declared.Loco.{Loco}
use Rattle.kinds.specs.declared.Ticket.{Ticket}
use Rattle.rules.specs.Effect.{applied}
use Rattle.rules.specs.Registering.{ticket_for}
use Rattle.rules.specs.Rules.{release, ground_of}
use Rattle.rules.specs.View.{row_in}
use Rattle.rules.specs.declared.ruling.Answer.{Answer}
use Rattle.rules.specs.Ruling.{Ruling}
use Rattle.order.specs.Scar.{Called, NamesNone, Released}
use Rattle.order.proofs.OrderLaws.{order-sound}
use Rattle.order.proofs.ScarLaws.{release-takes, names_one, above_names_none, none-refused}
use Rattle.store.specs.Lent.{Lent}
use Rattle.store.specs.Stands.{view_of, counter_of}
use Rattle.judging.specs.Judged.{judged}
use Rattle.session.specs.Answers.{answer_to, bytes_after}
use Rattle.settings.specs.Usual.{usual}
use Rattle.session.proofs.AfterLaws.{no_ground, judged-is, after-view, refused-bytes}
use Rattle.stepback.proofs.BackLaws.{of-session}
use Rattle.standing.specs.Ordered.{Ordered}
use Rattle.standing.proofs.KeptLaws.{is-session}

module _ (bs : List ℕ) (lent : Lent bs) (ordered : Ordered bs) (loco : Loco) (ticket : Ticket) where
  answer-is : answer_to bs (release loco ticket) ≡ (judged usual bs (release loco ticket)).answer
  unfolding answer_to
  answer-is = of-session bs _ (is-session bs lent)

  -- an accepted release takes away the row of that loco and ticket, frees its slots, and leaves every other row and slot
  pub takes_its_own : (answer_to bs (release loco ticket)).answer ≡ 0 → Released loco ticket (view_of bs) (view_of (bytes_after bs (release loco ticket)))
  takes_its_own accepted =
      let o = release loco ticket in
      let h : (judged usual bs o).answer.answer ≡ 0 = ap (λ (a : Answer). a.answer) (sym answer-is) ∙ accepted in
      subst (Released loco ticket (view_of bs))
      (sym (after-view bs lent o h ∙ ap (λ (r : Ruling). applied (view_of bs) r.effect) (judged-is bs lent o h)))
      (release-takes usual loco ticket (counter_of bs) (ticket_for (counter_of bs)) (view_of bs) (order-sound _ _ ordered.order) (no_ground bs lent o h))

  -- a loco and a ticket name at most one train
  pub one-train : (i j : ℕ) → Called loco ticket (row_in (view_of bs) i) → Called loco ticket (row_in (view_of bs) j) → i ≡ j
  one-train i j a b = names_one (counter_of bs) (view_of bs) ordered.order loco ticket i j a b

  -- a ticket that was not issued yet names no train: what is issued later names none that was issued before
  pub not_issued : (counter_of bs).0 < ticket.0 → NamesNone loco ticket (view_of bs)
  not_issued above = above_names_none (counter_of bs) (view_of bs) ordered.order loco ticket above

  -- a release that names no train is refused, and no byte changes
  pub late_refused : NamesNone loco ticket (view_of bs) → ((answer_to bs (release loco ticket)).answer ≡ 0 → ⊥) × (bytes_after bs (release loco ticket) ≡ bs)
  unfolding ground_of
  late_refused none =
      let o = release loco ticket in
      let refused : (answer_to bs o).answer ≡ 0 → ⊥ =
      λ e. none-refused loco ticket (view_of bs) none 0 (no_ground bs lent o (ap (λ (a : Answer). a.answer) (sym answer-is) ∙ e)) in
      (refused, refused-bytes bs o refused)
