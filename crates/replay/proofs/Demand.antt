-- DEMAND 3 holds of every session that meets its obligations (Lawful, Kept), over any list of calls.
use Prim.Native.Nat.{ℕ, ◌≤◌}
use native.Mathlib.Omega.{arith}
use mathlib.Core.Path.{◌≡◌, refl, sym, ap, ◌∙◌, subst, subst₂}
use mathlib.Core.List.{List, [], ◌∷◌}
use lib.ListN.{length}
use Rattle.replay.specs.Rules.{Rules, Lawful}
use Rattle.replay.specs.Demand3.{Call, Answer, Done, State, depth, History, Session}
use Rattle.replay.specs.Demand3.{came_to, read_off, stand, standing, keep, kept, issue, tickets, back_answer, Issued}
use Rattle.replay.specs.Demand3.{view_in, counter_in, kept_in, Starts, Made, OneCall, Demand3}
use Rattle.replay.specs.Machine.{step}
use Rattle.replay.specs.Kept.{Steps, Kept}
use Rattle.replay.proofs.Ways.{Way, way}
use Rattle.replay.proofs.Views.{Held, HeldAt, held_replay, held-sound, held_way}
use Rattle.replay.proofs.Tickets.{issued-append, issued_up, issued-fits, issued-once, issue-last, issued_way}
use Rattle.replay.proofs.Entries.{kept_way, keep-few}

-- What each call keeps holds after all: of the operations that stand, the tickets issued, the entries kept by the rule, and the bytes.
module _ {R : Rules} (S : Session R) (P : List (Done R.Op R.Reply) → List ℕ → ℕ → S.Bytes → Type 0)
    (keeps : (d : List (Done R.Op R.Reply)) (ts : List ℕ) (n : ℕ) (b m : S.Bytes) (c : Call R.Op) (a : Answer R.Reply) → P d ts n b → S.Did b c a m
    → P (stand (came_to c a) d) (issue R (came_to c a) ts) (keep (came_to c a) n) m) where
  each_call : (h : History R) (d : List (Done R.Op R.Reply)) (ts : List ℕ) (n : ℕ) (b b' : S.Bytes) → P d ts n b → Made S b h b'
      → P (read_off stand d h) (read_off (issue R) ts h) (read_off keep n h) b'
  unfolding read_off
  each_call [] d ts n b b' p m = subst (P d ts n) m p
  each_call (x ∷ h) d ts n b b' p m = each_call h _ _ _ m.0 b' (keeps d ts n b m.0 x.call x.answer p m.1) m.2

module _ {R : Rules} (S : Session R) (L : Lawful R) (K : Kept S) where
  open R use {View, Op, Reply, Entry, Sound}
  open S use {Bytes, state_in, Ready, Did}

  module _ (b₀ : Bytes) (start : Starts S b₀) where
    -- What is true of the bytes after each call, where d are the operations that stand, ts the tickets issued, and n the entries kept by the rule.
    record Holds (d : List (Done Op Reply)) (ts : List ℕ) (n : ℕ) (b : Bytes) : Type 0 where
      ready : Ready b
      held : HeldAt R (view_in S b₀) d (state_in b)
      issued : Issued R (counter_in S b₀) ts (counter_in S b)
      entries : kept_in S b ≡ n
      few : n ≤ depth

    holds_start : Holds [] [] 0 b₀
    unfolding depth
    holds_start =
        record {
          ready = start.ready;
          held = subst (λ (es : List Entry). Held R (view_in S b₀) [] (view_in S b₀) es) (sym start.none_kept) refl;
          issued = refl;
          entries = ap length start.none_kept;
          few = omega arith;
        }

    module _ (d : List (Done Op Reply)) (ts : List ℕ) (n : ℕ) (b b' : Bytes) (c : Call Op) (a : Answer Reply) (h : Holds d ts n b) (did : Did b c a b') where
      sound : Sound (view_in S b)
      sound = held-sound R L (view_in S b₀) start.sound d (view_in S b) (state_in b).log h.held

      did_step : Steps S b c a b'
      did_step = K.steps b c a b' h.ready sound did

      -- what holds of the machine's step holds of the call
      carry : (P : State View Entry → Answer Reply → Type 0) → P (step R (state_in b) c).0 (step R (state_in b) c).1 → P (state_in b') a
      carry P p = subst₂ P (sym did_step.state) (sym did_step.answer) p

      issued-call : Issued R (counter_in S b) (issue R (came_to c a) []) (counter_in S b')
      issued-call =
          carry (λ (s : State View Entry) (x : Answer Reply). Issued R (counter_in S b) (issue R (came_to c x) []) s.counter)
          (issued_way R L (state_in b) c (step R (state_in b) c) (way R (state_in b) c) sound)

      holds_call : Holds (stand (came_to c a) d) (issue R (came_to c a) ts) (keep (came_to c a) n) b'
      holds_call =
          record {
            ready = did_step.ready;
            held =
                carry (λ (s : State View Entry) (x : Answer Reply). HeldAt R (view_in S b₀) (stand (came_to c x) d) s)
                (held_way R L (view_in S b₀) start.sound (state_in b) c (step R (state_in b) c) d (way R (state_in b) c) h.held);
            issued = rw (issue-last R (came_to c a) ts) (issued-append R (counter_in S b₀) (counter_in S b) (counter_in S b') ts (issue R (came_to c a) []) h.issued issued-call);
            entries =
                carry (λ (s : State View Entry) (x : Answer Reply). length s.log ≡ keep (came_to c x) n)
                (kept_way R (state_in b) c (step R (state_in b) c) (way R (state_in b) c) ∙ ap (keep (came_to c (step R (state_in b) c).1)) h.entries);
            few = keep-few (came_to c a) n h.few;
          }

      one-call : OneCall S n b c a b'
      unfolding step
      one-call =
          record {
            refusal_same = λ m e. K.refusal_same b c m b' (subst (λ (x : Answer Reply). Did b c x b') e did);
            op_answered = λ o e. did_step.answer ∙ ap (λ (x : Call Op). (step R (state_in b) x).1) e;
            back_answered = λ k e. did_step.answer ∙ ap (λ (x : Call Op). (step R (state_in b) x).1) e ∙ ap (back_answer R k) h.entries;
            never_falls = issued_up R (counter_in S b) (counter_in S b') (issue R (came_to c a) []) issued-call;
            ticket_new = issued-call;
          }

    holds : (h : History R) (b' : Bytes) → Made S b₀ h b' → Holds (standing h) (tickets R h) (kept h) b'
    unfolding standing tickets kept
    holds h b' m = each_call S Holds (λ d ts n b m c a p did. holds_call d ts n b m c a p did) h [] [] 0 b₀ b' holds_start m

    -- what each way of a call keeps, of the state and of what is read off the history, holds after all calls
    pub each_way : (P : List (Done Op Reply) → List ℕ → State View Entry → Type 0)
        → ((s : State View Entry) (c : Call Op) (y : State View Entry × Answer Reply) (d : List (Done Op Reply)) (ts : List ℕ) → Way R s c y
        → HeldAt R (view_in S b₀) d s → Issued R (counter_in S b₀) ts s.counter → P d ts s
        → P (stand (came_to c y.1) d) (issue R (came_to c y.1) ts) y.0)
        → P [] [] (state_in b₀) → (h : History R) (b' : Bytes) → Made S b₀ h b' → P (standing h) (tickets R h) (state_in b')
    unfolding standing tickets
    each_way P keeps p h b' m =
        (each_call S (λ (d : List (Done Op Reply)) (ts : List ℕ) (n : ℕ) (b : Bytes). Holds d ts n b × P d ts (state_in b)) one h [] [] 0 b₀ b' (holds_start, p) m).1
      where
        one : (d : List (Done Op Reply)) (ts : List ℕ) (n : ℕ) (b m : Bytes) (c : Call Op) (a : Answer Reply) → Holds d ts n b × P d ts (state_in b) → Did b c a m
            → Holds (stand (came_to c a) d) (issue R (came_to c a) ts) (keep (came_to c a) n) m × P (stand (came_to c a) d) (issue R (came_to c a) ts) (state_in m)
        one d ts n b m c a q did = (
          holds_call d ts n b m c a q.0 did,
          carry d ts n b m c a q.0 did (λ (s : State View Entry) (x : Answer Reply). P (stand (came_to c x) d) (issue R (came_to c x) ts) s)
              (keeps (state_in b) c (step R (state_in b) c) d ts (way R (state_in b) c) q.0.held q.0.issued q.1),
        )

  -- the bytes are ready after any calls
  pub ready-after : (b b' : Bytes) (h : History R) → Starts S b → Made S b h b' → Ready b'
  ready-after b b' h start made = (holds b start h b' made).ready

  -- DEMAND 3: from any start, whatever the calls
  pub demand3 : (b b' : Bytes) (h : History R) → Starts S b → Made S b h b' → Demand3 S b h b'
  demand3 b b' h start made =
      record {
        replayed = held_replay R L (view_in S b) start.sound (standing h) (view_in S b') (state_in b').log p.held;
        tickets_rise = p.issued;
        tickets_once = λ i j l k. issued-once R (counter_in S b) (counter_in S b') (tickets R h) i j p.issued l k;
        counter_fits = issued-fits R (counter_in S b) (counter_in S b') (tickets R h) start.fits p.issued;
        kept_is = p.entries;
        kept_few = rw p.entries p.few;
        next = λ c a b'' did. one-call b start (standing h) (tickets R h) (kept h) b' b'' c a p did;
      }
    where
      p : Holds b start (standing h) (tickets R h) (kept h) b'
      p = holds b start h b' made
