-- The session's rules are lawful under any settings: what demand 3 asks of them.
use mathlib.Core.Path.{◌≡◌, refl, sym, ap, ◌∙◌, subst}
use mathlib.Core.Bool.{Bool, true, false, cond}
use Prim.Native.Nat.{ℕ, suc, ◌≤◌, ◌<◌}
use native.Mathlib.Omega.{arith}
use borrow.Author.Tests.{eqb-true, eq-eqb, ne_eqb}
use Rattle.replay.specs.Rules.{Lawful, refuse, accept, just_below, ticket_due, verdict}
use Rattle.kinds.specs.Kinds.{last_slot, last_ticket}
use Rattle.kinds.specs.declared.Ticket.{Ticket}
use Rattle.kinds.proofs.RangeLaws.{one-to}
use Rattle.rules.specs.Effect.{applied}
use Rattle.rules.specs.Registering.{ticket_of, ticket_for}
use Rattle.rules.specs.Rules.{Op, grants, ground_of, done_by, rule}
use Rattle.rules.specs.Ruling.{accepts}
use Rattle.rules.specs.View.{View}
use Rattle.rules.specs.declared.effect.Effect.{Effect}
use Rattle.rules.specs.Ruling.{Ruling}
use Rattle.rules.specs.declared.settings.Settings.{Settings}
use Rattle.order.specs.Sound.{Sound}
use Rattle.order.proofs.RuleLaws.{accepted-plain, accepted_exactly, grant_below, Alike, again, grant_again}
use Rattle.order.proofs.SoundLaws.{sound-kept, run-held}
use Rattle.entries.specs.Entry.{saved, undone}
use Rattle.entries.proofs.SaveLaws.{undo_save}
use Rattle.standing.specs.Said.{Reply, reply_of}
use Rattle.standing.specs.Standing.{outcome, rules}

-- ---- outcomes

-- what an accepted outcome says of its ruling
pub record Came (v : View) (q : Ruling) (r : Reply) (w : View) : Type 0 where
  pub accepted : q.answer.answer ≡ 0
  pub view : applied v q.effect ≡ w

pub came : (v : View) (q : Ruling) (r : Reply) (w : View) → outcome v q ≡ accept r w → Came v q r w
unfolding outcome
came v q r w e = by (accepts q.answer) refl e
  where
    by : (b : Bool) → accepts q.answer ≡ b
        → cond b (accept (reply_of q.answer) (applied v q.effect)) (refuse q.answer.answer) ≡ accept r w → Came v q r w
    by true t p = record { accepted = eqb-true q.answer.answer 0 t; view = cc }
    by false t p = let z : ◌≡◌ {A = ℕ} 0 1 = cc in absurd (omega arith)

-- an outcome, by its ruling's answer
pub outcome-accepted : (v : View) (q : Ruling) → q.answer.answer ≡ 0 → outcome v q ≡ accept (reply_of q.answer) (applied v q.effect)
unfolding outcome
outcome-accepted v q h = rw (eq-eqb q.answer.answer 0 h)

pub outcome-refused : (v : View) (q : Ruling) → (q.answer.answer ≡ 0 → ⊥) → outcome v q ≡ refuse q.answer.answer
unfolding outcome
outcome-refused v q h = rw (ne_eqb q.answer.answer 0 h)

-- rulings that come to the same have one outcome
pub outcome_alike : (v : View) (p q : Ruling) → Alike p q → outcome v p ≡ outcome v q
unfolding outcome
outcome_alike v p q a =
    λ i. cond (accepts (a.answer i)) (accept (reply_of (a.answer i)) (applied v (a.effect i))) (refuse (a.answer i).answer)

-- ---- the ticket that is due

module _ (s : Settings) (o : Op) (c : ℕ) where
  -- a grant's is the next one
  pub due-grant : grants o ≡ true → ticket_due (rules s) o c ≡ suc c
  unfolding ticket_due ticket_for
  due-grant g = λ i. cond (g i) (suc c) 0

  -- the ruling under the ticket that is due
  abbrev pub due_rule : View → Ruling
  due_rule v = rule s o (ticket_of c) (ticket_of (ticket_due (rules s) o c)) v

  -- comes to the same as under the next ticket, which only a grant looks at
  pub due-next : (v : View) → Alike (due_rule v) (rule s o (ticket_of c) (ticket_for (ticket_of c)) v)
  unfolding ticket_for
  due-next v = by (grants o) refl
    where
      by : (b : Bool) → grants o ≡ b → Alike (due_rule v) (rule s o (ticket_of c) (ticket_of (suc c)) v)
      by true g = rw (due-grant g) (record { answer = refl; effect = refl })
      by false g = again s o (ticket_of c) (ticket_of c) _ _ v g

  -- and as where the counter stands just below it, where the operation is accepted
  pub due_again : (v : View) → ground_of s o (ticket_of c) v ≡ 0
      → Alike (rule s o (ticket_of (just_below (ticket_due (rules s) o c))) (ticket_of (ticket_due (rules s) o c)) v) (due_rule v)
  due_again v e = by (grants o) refl
    where
      by : (b : Bool) → grants o ≡ b → Alike (rule s o (ticket_of (just_below (ticket_due (rules s) o c))) (ticket_of (ticket_due (rules s) o c)) v) (due_rule v)
      by true g =
          let below : c < last_ticket = grant_below s o (ticket_of c) (ticket_of 0) v e g in
          grant_again s o (ticket_of (just_below (ticket_due (rules s) o c))) (ticket_of c) _ v g (omega (arith, due-grant g, below)) below
      by false g = again s o _ (ticket_of c) _ _ v g

-- ---- the laws

module _ (s : Settings) (o : Op) (c : ℕ) (v w : View) (r : Reply) (sound : Sound v) (e : outcome v (due_rule s o c v) ≡ accept r w) where
  t : Ticket
  t = ticket_of (ticket_due (rules s) o c)

  did : Came v (due_rule s o c v) r w
  did = came v (due_rule s o c v) r w e

  ground : ground_of s o (ticket_of c) v ≡ 0
  ground = (accepted_exactly s o (ticket_of c) (ticket_of (ticket_due (rules s) o c)) v).0 did.accepted

  effect : Effect
  effect = (done_by s o (ticket_of c) (ticket_of (ticket_due (rules s) o c)) v).effect

  effect_is : (due_rule s o c v).effect ≡ effect
  unfolding effect
  effect_is = ap (λ (q : Ruling). q.effect) (accepted-plain s o (ticket_of c) (ticket_of (ticket_due (rules s) o c)) v ground)

  view-is : applied v effect ≡ w
  view-is = ap (applied v) (sym effect_is) ∙ did.view

  pub acts_sound : Sound w
  unfolding effect
  acts_sound = subst Sound view-is (sound-kept s o (ticket_of c) (ticket_of (ticket_due (rules s) o c)) v sound ground)

  saved-is : (rule s o (ticket_of (just_below (ticket_due (rules s) o c))) (ticket_of (ticket_due (rules s) o c)) v).effect ≡ effect
  saved-is = (due_again s o c v ground).effect ∙ effect_is

  pub undoes : undone (saved v (rule s o (ticket_of (just_below (ticket_due (rules s) o c))) (ticket_of (ticket_due (rules s) o c)) v).effect) w ≡ v
  unfolding effect
  undoes =
      (λ i. undone (saved v (saved-is i)) (sym view-is i))
      ∙ undo_save v effect sound.book
      (λ slot range low high.
      let r = one-to last_slot slot.0 range in
      run-held s o (ticket_of c) (ticket_of (ticket_due (rules s) o c)) v sound ground slot.0 (record { low = r.0; high = r.1 }) (record { low = low; high = high }))

  pub acts_again : outcome v (rule s o (ticket_of (just_below (ticket_due (rules s) o c))) (ticket_of (ticket_due (rules s) o c)) v) ≡ accept r w
  acts_again = outcome_alike v _ _ (due_again s o c v ground) ∙ e

  pub ticket_is : grants o ≡ true → (c < ticket_due (rules s) o c) × (ticket_due (rules s) o c ≤ last_ticket)
  ticket_is g =
      let below : c < last_ticket = grant_below s o (ticket_of c) (ticket_of 0) v ground g in
      (omega (arith, due-grant s o c g), omega (arith, due-grant s o c g, below))

pub lawful : (s : Settings) → Lawful (rules s)
unfolding verdict
lawful s =
    record {
      act_sound = λ o c v w r sound e. acts_sound s o c v w r sound e;
      undo_save = λ o c v w r sound e. undoes s o c v w r sound e;
      act_again = λ o c v w r sound e. acts_again s o c v w r sound e;
      ticket_fits = λ o c v w r sound e g. ticket_is s o c v w r sound e g;
    }
