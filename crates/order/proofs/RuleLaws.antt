-- Laws of rulings: when an operation is accepted, and what then becomes of the answer and of the counter; what a refusal is; and that an operation
-- comes to the same again where the counter stands elsewhere.
use mathlib.Core.Path.{◌≡◌, refl, sym, ap, ◌∙◌}
use mathlib.Core.Bool.{Bool, true, false, cond, true≢false, false≢true}
use mathlib.Core.Logic.{◌↔◌, by_cases}
use Prim.Native.Nat.{ℕ, ◌<◌}
use native.Mathlib.Decide.{ℕ_discrete}
use lib.Dec.{eqb}
use borrow.Author.Tests.{eq-eqb, ne_eqb, lt-ltb}
use Rattle.kinds.specs.Kinds.{last_ticket}
use Rattle.kinds.specs.declared.Loco.{Loco}
use Rattle.kinds.specs.declared.Ticket.{Ticket}
use Rattle.rules.specs.Deeds.{done}
use Rattle.rules.specs.Named.{named_in}
use Rattle.rules.specs.Raising.{raised}
use Rattle.rules.specs.Registering.{granted, released, request_ground}
use Rattle.rules.specs.Rules.{Op, request, release, on, sos, grants, ground_of, done_by, rule}
use Rattle.rules.specs.Ruling.{refused, ruled}
use Rattle.rules.specs.View.{View}
use Rattle.rules.specs.Ruling.{Ruling}
use Rattle.rules.specs.declared.settings.Settings.{Settings}
use Rattle.order.proofs.Facts.{names, requests}

-- ---- accepted or refused

module _ (s : Settings) (o : Op) (c t : Ticket) (v : View) where
  -- without a ground, the operation is done
  pub accepted-plain : ground_of s o c v ≡ 0 → rule s o c t v ≡ done_by s o c t v
  unfolding rule ruled
  accepted-plain e = rw (eq-eqb (ground_of s o c v) 0 e)

  -- on a ground, it is refused with it: the counter stays, and there is no effect
  pub refused-plain : (ground_of s o c v ≡ 0 → ⊥) → rule s o c t v ≡ refused c (ground_of s o c v)
  unfolding rule ruled
  refused-plain n = rw (ne_eqb (ground_of s o c v) 0 n)

-- what is done is answered by 0
pub done-accepts : (s : Settings) (o : Op) (c t : Ticket) (v : View) → ground_of s o c v ≡ 0 → (done_by s o c t v).answer.answer ≡ 0
unfolding ground_of done_by granted released raised
done-accepts s (request loco bytes) c t v e = refl
done-accepts s (release loco ticket) c t v e = refl
done-accepts s (on loco ticket deed) c t v e = (names loco ticket v (done deed (named_in loco ticket v).train).answer.answer e).1
done-accepts s (sos loco2 ticket2 loco1 ticket1 grid) c t v e = refl

-- an operation is accepted exactly when there is no ground
pub accepted_exactly : (s : Settings) (o : Op) (c t : Ticket) (v : View) → ((rule s o c t v).answer.answer ≡ 0) ↔ (ground_of s o c v ≡ 0)
accepted_exactly s o c t v = (
  λ e.
      by_cases (ℕ_discrete (ground_of s o c v) 0) (λ z. z)
      (λ n. sym (ap (λ (r : Ruling). r.answer.answer) (refused-plain s o c t v n)) ∙ e),
  λ e. ap (λ (r : Ruling). r.answer.answer) (accepted-plain s o c t v e) ∙ done-accepts s o c t v e,
)

-- ---- the counter

-- a grant is a request
a_request : (o : Op) → grants o ≡ true → (loco : Loco) × (bytes : ℕ) × (o ≡ request loco bytes)
unfolding grants
a_request (request loco bytes) g = (loco, bytes, refl)
a_request (release loco ticket) g = absurd (false≢true g)
a_request (on loco ticket deed) g = absurd (false≢true g)
a_request (sos loco2 ticket2 loco1 ticket1 grid) g = absurd (false≢true g)

-- the counter afterwards: a grant's ticket, and the counter as it was for any other operation
pub counter-done : (s : Settings) (o : Op) (c t : Ticket) (v : View) → (done_by s o c t v).counter ≡ cond (grants o) t c
unfolding grants done_by granted released raised
counter-done s (request loco bytes) c t v = refl
counter-done s (release loco ticket) c t v = refl
counter-done s (on loco ticket deed) c t v = refl
counter-done s (sos loco2 ticket2 loco1 ticket1 grid) c t v = refl

module _ (s : Settings) (o : Op) (c t : Ticket) (v : View) (accepted : ground_of s o c v ≡ 0) where
  -- where an operation is accepted, the ruling's counter is the ticket of a grant
  pub counter-after : (rule s o c t v).counter ≡ cond (grants o) t c
  counter-after = ap (λ (r : Ruling). r.counter) (accepted-plain s o c t v accepted) ∙ counter-done s o c t v

  -- the first number of a grant's answer is its ticket
  pub grant-told : grants o ≡ true → (rule s o c t v).answer.first ≡ t.0
  unfolding done_by granted
  grant-told g =
      let r = a_request o g in
      ap (λ (r : Ruling). r.answer.first) (accepted-plain s o c t v accepted) ∙ ap (λ (p : Op). (done_by s p c t v).answer.first) r.2

  -- and a grant is accepted only where a ticket is left
  pub grant_below : grants o ≡ true → c.0 < last_ticket
  unfolding ground_of
  grant_below g =
      let r = a_request o g in
      (requests s.carries r.0 r.1 c v (sym (ap (λ (p : Op). ground_of s p c v) r.2) ∙ accepted)).below

-- ---- again, where the counter stands elsewhere

-- two rulings come to the same, the counter apart
pub record Alike (p q : Ruling) : Type 0 where
  pub answer : p.answer ≡ q.answer
  pub effect : p.effect ≡ q.effect

alike : (p : Ruling) → Alike p p
alike p = record { answer = refl; effect = refl }

alike_ruled : (c d : Ticket) (g h : ℕ) (p q : Ruling) → g ≡ h → Alike p q → Alike (ruled c g p) (ruled d h q)
unfolding ruled
alike_ruled c d g h p q e a = rw e (go (eqb h 0))
  where
    go : (b : Bool) → Alike (cond b p (refused c h)) (cond b q (refused d h))
    go true = a
    go false = record { answer = refl; effect = refl }

-- an operation that is no grant does not look at the counter or at a ticket
pub again : (s : Settings) (o : Op) (c d t u : Ticket) (v : View) → grants o ≡ false → Alike (rule s o c t v) (rule s o d u v)
unfolding grants rule ground_of done_by released raised
again s (request loco bytes) c d t u v g = absurd (true≢false g)
again s (release loco ticket) c d t u v g = alike_ruled c d _ _ _ _ refl (record { answer = refl; effect = refl })
again s (on loco ticket deed) c d t u v g = alike_ruled c d _ _ _ _ refl (record { answer = refl; effect = refl })
again s (sos loco2 ticket2 loco1 ticket1 grid) c d t u v g = alike_ruled c d _ _ _ _ refl (record { answer = refl; effect = refl })

-- and a grant under one ticket comes to the same wherever a ticket is left
again_below : (per_slot : ℕ) (loco : Loco) (bytes : ℕ) (c d : Ticket) (v : View) → c.0 < last_ticket → d.0 < last_ticket
    → request_ground per_slot loco bytes c v ≡ request_ground per_slot loco bytes d v
unfolding request_ground
again_below per_slot loco bytes c d v l m = rw (lt-ltb c.0 last_ticket l, lt-ltb d.0 last_ticket m)

pub grant_again : (s : Settings) (o : Op) (c d t : Ticket) (v : View) → grants o ≡ true → c.0 < last_ticket → d.0 < last_ticket
    → Alike (rule s o c t v) (rule s o d t v)
unfolding rule ground_of done_by
grant_again s o c d t v g l m =
    let r = a_request o g in
    rw r.2 (alike_ruled c d _ _ _ _ (again_below s.carries r.0 r.1 c d v l m) (alike _))
