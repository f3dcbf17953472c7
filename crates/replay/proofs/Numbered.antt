-- Where each grant takes the number after the counter, the tickets are the counter's next numbers: from an empty session 1, 2, 3 and so on.
-- Nothing cites this law: the demand holds of rules that number otherwise too.
use Prim.Native.Nat.{ℕ, zero, suc, ◌+◌, ◌≤◌, ◌<◌}
use native.Mathlib.Nat.{le_of_suc-le-suc, not-suc-le-zero}
use native.Mathlib.Omega.{arith}
use mathlib.Core.Path.{◌≡◌, refl}
use mathlib.Core.Bool.{Bool, true, false, cond}
use mathlib.Core.List.{List, [], ◌∷◌, ◌++◌}
use lib.ListN.{length, get_or, length-append}
use Rattle.replay.specs.Rules.{Rules, Lawful, ticket_due, counter_after}
use Rattle.replay.specs.Demand3.{Call, Answer, Done, State, History, Session, came_to, Issued, issue, tickets, counter_in, Starts, Made}
use Rattle.replay.specs.Machine.{acted, undone}
use Rattle.replay.specs.Kept.{Kept}
use Rattle.replay.proofs.Ways.{Way, stays, acts, goes, refused-nothing}
use Rattle.replay.proofs.Demand.{each_way, demand3}

module _ (R : Rules) where
  -- tickets that rise by no more than their number leave no number out
  issued-room : (c d : ℕ) (ts : List ℕ) → Issued R c ts d → c + length ts ≤ d
  issued-room c d [] p = omega arith
  issued-room c d (t ∷ ts) p = omega (arith, issued-room t d ts p.2)

  issued-first : (c d t : ℕ) (ts : List ℕ) → Issued R c (t ∷ ts) d → d ≡ c + length (t ∷ ts) → t ≡ suc c
  issued-first c d t ts p e = omega (arith, issued-room t d ts p.2)

  issued-next : (c d : ℕ) (ts : List ℕ) → Issued R c ts d → d ≡ c + length ts → (i : ℕ) → i < length ts → get_or ts i 0 ≡ suc (c + i)
  issued-next c d [] p e i l = absurd (not-suc-le-zero l)
  issued-next c d (t ∷ ts) p e zero l = omega (arith, issued-first c d t ts p e)
  issued-next c d (t ∷ ts) p e (suc i) l =
      let first = issued-first c d t ts p e in omega (arith, issued-next t d ts p.2 (omega arith) i (le_of_suc-le-suc l))

module _ {R : Rules} (S : Session R) (L : Lawful R) (K : Kept S) (by_one : (o : R.Op) (c : ℕ) → R.grants o ≡ true → R.ticket_for o c ≡ suc c) where
  open R use {View, Op, Reply, Entry, grants, ticket_for}
  open S use {Bytes}

  raised : (o : Op) (c t : ℕ) (ts : List ℕ) (g : Bool) → grants o ≡ g → cond g (ticket_for o c) c + length ts ≡ c + length (cond g (ts ++ t ∷ []) ts)
  raised o c t ts true e = omega (arith, by_one o c e, length-append ts (t ∷ []))
  raised o c t ts false e = refl

  -- the counter rises by the number of tickets issued
  raised_way : (s : State View Entry) (c : Call Op) (y : State View Entry × Answer Reply) (ts : List ℕ) → Way R s c y
      → y.0.counter + length ts ≡ s.counter + length (issue R (came_to c y.1) ts)
  unfolding acted undone came_to issue counter_after
  raised_way s c y ts (stays n) = rw (refused-nothing c n) refl
  raised_way s c y ts (acts o r w e) = raised o s.counter (ticket_due R o s.counter) ts (grants o) refl
  raised_way s c y ts (goes k l) = refl

  counter_rises : (b b' : Bytes) (h : History R) → Starts S b → Made S b h b' → counter_in S b' ≡ counter_in S b + length (tickets R h)
  counter_rises b b' h start m =
      each_way S L K b start (λ (d : List (Done Op Reply)) (ts : List ℕ) (s : State View Entry). s.counter ≡ counter_in S b + length ts)
      (λ s c y d ts w held issued p. omega (arith, p, raised_way s c y ts w)) (omega arith) h b' m

  -- the i-th ticket, counted from 0, is the i-th number after the counter at the start
  pub tickets_numbered : (b b' : Bytes) (h : History R) → Starts S b → Made S b h b' → (i : ℕ) → i < length (tickets R h)
      → get_or (tickets R h) i 0 ≡ suc (counter_in S b + i)
  tickets_numbered b b' h start m i l =
      issued-next R (counter_in S b) (counter_in S b') (tickets R h) (demand3 S L K b b' h start m).tickets_rise (counter_rises b b' h start m) i l
