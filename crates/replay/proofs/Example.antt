-- The obligations can be met: the machine itself is a session of any rules, and a small kind of session has lawful rules. So demand 3 holds of it.
use Prim.Native.Nat.{ℕ, suc, ◌≤◌, ◌<◌}
use native.Mathlib.Omega.{arith}
use mathlib.Core.Path.{◌≡◌, refl, sym, ◌∙◌, subst}
use mathlib.Core.Bool.{Bool, true, false, cond}
use mathlib.Core.List.{List, [], ◌∷◌}
use borrow.Author.Tests.{le-leb}
use lib.Dec.{T, leb, ltb, leb→le}
use Rattle.replay.specs.Rules.{Rules, Lawful, Outcome, refuse, accept, just_below, ticket_due, verdict, counter_after}
use Rattle.replay.specs.Demand3.{Call, op, back, State, depth, History, Session, Starts, Made, Demand3}
use Rattle.replay.specs.Demand3.{came_to, read_off, without_last, stand, standing, keep, kept, issue, tickets, op_answer, back_answer}
use Rattle.replay.specs.Machine.{acted, undo_all, undone, step}
use Rattle.replay.specs.Kept.{Kept}
use Rattle.replay.proofs.Ways.{refused-same}
use Rattle.replay.proofs.Demand.{demand3}

-- ── the machine as a session ──

module _ (R : Rules) where
  open R use {View, Op, Reply, Entry}

  abbrev pub machine : Session R
  machine =
      record {
        Bytes = State View Entry;
        state_in = λ s. s;
        Ready = λ s. Unit {0};
        Did = λ s c a s'. (s' ≡ (step R s c).0) × (a ≡ (step R s c).1);
      }

  pub machine_kept : Kept machine
  machine_kept =
      record {
        steps = λ s c a s' ready sound did. record { ready = tt; state = did.0; answer = did.1 };
        refusal_same = λ s c n s' did. did.0 ∙ refused-same R s c n (sym did.1);
      }

-- ── one number, which is set, or set to a new ticket: the next one, or one that is named ──

data Op : Type 0 where
  set_to : ℕ → Op
  grant : Op
  grant_as : ℕ → Op

unfoldable is_grant : Op → Bool
is_grant (set_to x) = false
is_grant grant = true
is_grant (grant_as n) = true

unfoldable ticket_of : Op → ℕ → ℕ
ticket_of (set_to x) c = 0
ticket_of grant c = suc c
ticket_of (grant_as n) c = n

-- the last ticket
unfoldable last : ℕ
last = 9

-- a ticket that is not above the counter is refused (2), and one past the last ticket (1)
unfoldable given : ℕ → ℕ → Outcome ℕ ℕ
given c t = cond (ltb c t) (cond (leb t last) (accept t t) (refuse 1)) (refuse 2)

unfoldable act : Op → ℕ → ℕ → ℕ → Outcome ℕ ℕ
act (set_to x) c t v = accept 0 x
act grant c t v = given c t
act (grant_as n) c t v = given c t

abbrev rules : Rules
rules =
    record {
      View = ℕ;
      Op = Op;
      Reply = ℕ;
      Entry = ℕ;
      grants = is_grant;
      ticket_for = ticket_of;
      last_ticket = last;
      too_far_back = 3;
      act = act;
      save = λ o t v. v;
      undo = λ e w. e;
      Sound = λ v. Unit {0};
    }

-- what an accepted ticket is
record Given (c t r w : ℕ) : Type 0 where
  above : c < t
  fits : t ≤ last
  -- and it is accepted alike just below itself
  again : given (just_below t) t ≡ accept r w

given_is : (c t r w : ℕ) → given c t ≡ accept r w → Given c t r w
unfolding given
given_is c t r w e = go (ltb c t) (leb t last) refl refl e
  where
    go : (a f : Bool) → ltb c t ≡ a → leb t last ≡ f → ◌≡◌ {A = Outcome ℕ ℕ} (cond a (cond f (accept t t) (refuse 1)) (refuse 2)) (accept r w) → Given c t r w
    go true true p q e =
        let above : c < t = leb→le (suc c) t (subst T (sym p) tt) in
        record { above = above; fits = leb→le t last (subst T (sym q) tt); again = rw (le-leb (suc (just_below t)) t (omega arith), q) e }
    go true false p q e = let z : ◌≡◌ {A = ℕ} 0 1 = cc in absurd (omega arith)
    go false f p q e = let z : ◌≡◌ {A = ℕ} 0 1 = cc in absurd (omega arith)

again : (o : Op) (c v w r : ℕ) → verdict rules o c v ≡ accept r w → act o (just_below (ticket_due rules o c)) (ticket_due rules o c) v ≡ accept r w
unfolding verdict ticket_due is_grant ticket_of act
again (set_to x) c v w r e = e
again grant c v w r e = (given_is c (suc c) r w e).again
again (grant_as n) c v w r e = (given_is c n r w e).again

fits : (o : Op) (c v w r : ℕ) → verdict rules o c v ≡ accept r w → is_grant o ≡ true → (c < ticket_due rules o c) × (ticket_due rules o c ≤ last)
unfolding verdict ticket_due is_grant ticket_of act
fits (set_to x) c v w r e g = let z : ◌≡◌ {A = ℕ} 0 1 = cc in absurd (omega arith)
fits grant c v w r e g = let f = given_is c (suc c) r w e in (f.above, f.fits)
fits (grant_as n) c v w r e g = let f = given_is c n r w e in (f.above, f.fits)

lawful : Lawful rules
lawful =
    record {
      act_sound = λ o c v w r s e. tt;
      undo_save = λ o c v w r s e. refl;
      act_again = λ o c v w r s e. again o c v w r e;
      ticket_fits = λ o c v w r s e g. fits o c v w r e g;
    }

example_demand3 : (s s' : State ℕ ℕ) (h : History rules) → Starts (machine rules) s → Made (machine rules) s h s' → Demand3 (machine rules) s h s'
example_demand3 s s' h start made = demand3 (machine rules) lawful (machine_kept rules) s s' h start made

-- ── it runs ──

answered : State ℕ ℕ → List (Call Op) → History rules
answered s [] = []
answered s (c ∷ cs) = record { call = c; answer = (step rules s c).1 } ∷ answered (step rules s c).0 cs

-- a number, the next ticket, that one stepped back, ticket 5, the same again, the next ticket, and a step back of more than is kept
run : History rules
run = answered (record { view = 0; counter = 0; log = [] }) (op (set_to 7) ∷ op grant ∷ back 1 ∷ op (grant_as 5) ∷ op (grant_as 5) ∷ op grant ∷ back 4 ∷ [])

-- tickets 5 and 6 stand, three were issued, and three entries are kept
run_is :
    (standing run
    ≡ record { operation = set_to 7; ticket = 0; reply = 0 } ∷ record { operation = grant_as 5; ticket = 5; reply = 5 }
    ∷ record { operation = grant; ticket = 6; reply = 6 } ∷ []) × (tickets rules run ≡ 1 ∷ 5 ∷ 6 ∷ []) × (kept run ≡ 3)
unfolding run answered is_grant ticket_of last given act depth came_to read_off without_last stand standing keep kept issue tickets op_answer back_answer ticket_due verdict counter_after acted undo_all undone step
run_is = (refl, refl, refl)
