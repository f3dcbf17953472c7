-- The tickets issued rise, and the counter follows them: after every call, and over a list of calls.
use Prim.Native.Nat.{ℕ, zero, suc, ◌≤◌, ◌<◌}
use native.Mathlib.Nat.{le_of_suc-le-suc, not-suc-le-zero}
use native.Mathlib.Omega.{arith}
use mathlib.Core.Path.{◌≡◌, refl, sym, subst}
use mathlib.Core.Logic.{◌≢◌}
use mathlib.Core.Bool.{Bool, true, false, cond}
use mathlib.Core.List.{List, [], ◌∷◌, ◌++◌, append-nil}
use lib.ListN.{length, get_or}
use Rattle.replay.specs.Rules.{Rules, Lawful, accept, ticket_due, verdict, counter_after}
use Rattle.replay.specs.Demand3.{Call, op, Answer, took, CameTo, entry, step_back, nothing, State, came_to, Issued, issue}
use Rattle.replay.specs.Machine.{acted, undone}
use Rattle.replay.proofs.Ways.{Way, stays, acts, goes, refused-nothing}

module _ (R : Rules) where
  open R use {Op, Reply, grants, last_ticket}

  -- ── a chain of tickets ──

  pub issued-append : (c m d : ℕ) (ts us : List ℕ) → Issued R c ts m → Issued R m us d → Issued R c (ts ++ us) d
  issued-append c m d [] us p q = rw p q
  issued-append c m d (t ∷ ts) us p q = (p.0, p.1, issued-append t m d ts us p.2 q)

  -- the other way: what follows starts where the first tickets ended
  pub issued-rest : (c m d : ℕ) (ts us : List ℕ) → Issued R c ts m → Issued R c (ts ++ us) d → Issued R m us d
  issued-rest c m d [] us p q = subst (λ (n : ℕ). Issued R n us d) p q
  issued-rest c m d (t ∷ ts) us p q = issued-rest t m d ts us p.2 q.2

  pub issued_up : (c d : ℕ) (ts : List ℕ) → Issued R c ts d → c ≤ d
  issued_up c d [] p = omega arith
  issued_up c d (t ∷ ts) p = omega (arith, issued_up t d ts p.2)

  pub issued-fits : (c d : ℕ) (ts : List ℕ) → c ≤ last_ticket → Issued R c ts d → d ≤ last_ticket
  issued-fits c d [] l p = rw p at l
  issued-fits c d (t ∷ ts) l p = issued-fits t d ts p.1 p.2

  -- each ticket is above the counter before, and not above the counter after
  pub issued_above : (c d : ℕ) (ts : List ℕ) (j : ℕ) → Issued R c ts d → j < length ts → c < get_or ts j 0
  issued_above c d [] j p l = absurd (not-suc-le-zero l)
  issued_above c d (t ∷ ts) zero p l = p.0
  issued_above c d (t ∷ ts) (suc j) p l = omega (arith, issued_above t d ts j p.2 (le_of_suc-le-suc l))

  pub issued_below : (c d : ℕ) (ts : List ℕ) (j : ℕ) → Issued R c ts d → j < length ts → get_or ts j 0 ≤ d
  issued_below c d [] j p l = absurd (not-suc-le-zero l)
  issued_below c d (t ∷ ts) zero p l = issued_up t d ts p.2
  issued_below c d (t ∷ ts) (suc j) p l = issued_below t d ts j p.2 (le_of_suc-le-suc l)

  -- a later ticket is above an earlier one
  issued_rise : (c d : ℕ) (ts : List ℕ) (i j : ℕ) → Issued R c ts d → i < j → j < length ts → get_or ts i 0 < get_or ts j 0
  issued_rise c d [] i j p k l = absurd (not-suc-le-zero l)
  issued_rise c d (t ∷ ts) i zero p k l = absurd (not-suc-le-zero k)
  issued_rise c d (t ∷ ts) zero (suc j) p k l = issued_above t d ts j p.2 (le_of_suc-le-suc l)
  issued_rise c d (t ∷ ts) (suc i) (suc j) p k l = issued_rise t d ts i j p.2 (le_of_suc-le-suc k) (le_of_suc-le-suc l)

  pub issued-once : (c d : ℕ) (ts : List ℕ) (i j : ℕ) → Issued R c ts d → i < j → j < length ts → get_or ts i 0 ≢ get_or ts j 0
  issued-once c d ts i j p k l e = let rise = issued_rise c d ts i j p k l in absurd (omega arith)

  -- a ticket goes to the end of those issued before
  pub issue-last : (x : CameTo Op Reply) (ts : List ℕ) → issue R x ts ≡ ts ++ issue R x []
  unfolding issue
  issue-last (entry x) ts = go (grants x.operation)
    where
      go : (g : Bool) → cond g (ts ++ x.ticket ∷ []) ts ≡ ts ++ cond g (x.ticket ∷ []) []
      go true = refl
      go false = sym (append-nil ts)
  issue-last (step_back k) ts = sym (append-nil ts)
  issue-last nothing ts = sym (append-nil ts)

-- ── one call ──

module _ (R : Rules) (L : Lawful R) where
  open R use {View, Op, Reply, Entry, grants, Sound}
  open L use {ticket_fits}

  issued_acts : (s : State View Entry) (o : Op) (r : Reply) (w : View) (b : Bool) → Sound s.view → verdict R o s.counter s.view ≡ accept r w → grants o ≡ b
      → Issued R s.counter (issue R (came_to (op o) (took (ticket_due R o s.counter) r)) []) (counter_after R o s.counter)
  unfolding came_to issue ticket_due counter_after
  issued_acts s o r w false sound e g = rw g refl
  issued_acts s o r w true sound e g = let f = rw g at (ticket_fits o s.counter s.view w r sound e g) in rw g (f.0, f.1, refl)

  pub issued_way : (s : State View Entry) (c : Call Op) (y : State View Entry × Answer Reply) → Way R s c y → Sound s.view
      → Issued R s.counter (issue R (came_to c y.1) []) y.0.counter
  unfolding acted undone came_to issue
  issued_way s c y (stays n) sound = rw (refused-nothing c n) refl
  issued_way s c y (acts o r w e) sound = issued_acts s o r w (grants o) sound e refl
  issued_way s c y (goes k l) sound = refl
