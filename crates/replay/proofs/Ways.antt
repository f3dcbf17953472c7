-- The three ways that a call of the machine can go.
use Prim.Native.Nat.{ℕ, ◌-◌, ◌≤◌}
use mathlib.Core.Path.{◌≡◌, refl, sym, subst}
use mathlib.Core.Bool.{Bool, true, false, cond}
use lib.Dec.{T, leb, leb→le}
use lib.ListN.{length}
use Rattle.replay.specs.Rules.{Rules, Outcome, refuse, accept, ticket_due, verdict}
use Rattle.replay.specs.Demand3.{Call, op, back, Answer, took, went_back, refused, nothing, State, came_to}
use Rattle.replay.specs.Demand3.{op_answer, back_answer}
use Rattle.replay.specs.Machine.{acted, undone, step}

-- a refused call came to nothing
pub refused-nothing : {Op Reply : Type 0} (c : Call Op) (n : ℕ) → came_to {Reply = Reply} c (refused n) ≡ nothing
unfolding came_to
refused-nothing (op o) n = refl
refused-nothing (back k) n = refl

module _ (R : Rules) where
  open R use {View, Op, Reply, Entry, too_far_back}

  -- A call on the state s gives the state and the answer y: it is refused and the state stays, or the operation acts, or the session goes back.
  pub data Way (s : State View Entry) : Call Op → State View Entry × Answer Reply → Type 0 where
    stays : {c : Call Op} (n : ℕ) → Way s c (s, refused n)
    acts : (o : Op) (r : Reply) (w : View) → verdict R o s.counter s.view ≡ accept r w
        → Way s (op o) (acted R o s (accept r w), took (ticket_due R o s.counter) r)
    goes : (k : ℕ) → k ≤ length s.log → Way s (back k) (undone R k s, went_back (length s.log - k))

  way_op : (s : State View Entry) (o : Op) (x : Outcome View Reply) → verdict R o s.counter s.view ≡ x
      → Way s (op o) (acted R o s x, op_answer (ticket_due R o s.counter) x)
  unfolding acted op_answer
  way_op s o (refuse n) e = stays n
  way_op s o (accept r w) e = acts o r w e

  way_back : (s : State View Entry) (k : ℕ) (b : Bool) → leb k (length s.log) ≡ b
      → Way s (back k) (cond b (undone R k s) s, cond b (went_back (length s.log - k)) (refused too_far_back))
  way_back s k false e = stays too_far_back
  way_back s k true e = goes k (leb→le k (length s.log) (subst T (sym e) tt))

  pub way : (s : State View Entry) (c : Call Op) → Way s c (step R s c)
  unfolding step back_answer
  way s (op o) = way_op s o (verdict R o s.counter s.view) refl
  way s (back k) = way_back s k (leb k (length s.log)) refl

  stays_same : (s : State View Entry) (c : Call Op) (y : State View Entry × Answer Reply) (n : ℕ) → Way s c y → y.1 ≡ refused n → y.0 ≡ s
  stays_same s c y n (stays m) e = refl
  stays_same s c y n (acts o r w p) e = cc
  stays_same s c y n (goes k l) e = cc

  -- a refused call leaves the state as it was
  pub refused-same : (s : State View Entry) (c : Call Op) (n : ℕ) → (step R s c).1 ≡ refused n → (step R s c).0 ≡ s
  refused-same s c n e = stays_same s c (step R s c) n (way s c) e
