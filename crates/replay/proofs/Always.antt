-- A property of counter and view that lasts (specs/Always.antt) holds after any calls from a start that has it, step-backs included: the log leads back
-- only to views that had it at a counter not above today's.
use Prim.Native.Nat.{ℕ, zero, suc, ◌≤◌}
use mathlib.Core.Path.{sym, subst}
use mathlib.Core.List.{List, [], ◌∷◌}
use lib.ListN.{take, drop}
use Rattle.replay.specs.Rules.{Rules, Lawful, ticket_due, counter_after}
use Rattle.replay.specs.Demand3.{Call, Answer, Done, State, depth, History, Session, came_to, issue, Issued, view_in, counter_in, Starts, Made}
use Rattle.replay.specs.Machine.{acted, undo_all, undone}
use Rattle.replay.specs.Kept.{Kept}
use Rattle.replay.specs.Always.{Lasts}
use Rattle.replay.proofs.Ways.{Way, stays, acts, goes}
use Rattle.replay.proofs.Views.{held-sound}
use Rattle.replay.proofs.Tickets.{issued_up, issued-fits, issued_way}
use Rattle.replay.proofs.Demand.{each_way}

-- ── along the log ──

module _ (R : Rules) (P : ℕ → R.View → Type 0) where
  open R use {View, Entry, last_ticket, undo}

  -- Where the counter stands at c, P holds of the view v, and of every view that the entries es lead back to.
  abbrev Along : ℕ → View → List Entry → Type 0
  Along c v [] = P c v
  Along c v (e ∷ es) = P c v × Along c (undo e v) es

  -- the same of a state
  abbrev AlongAt : State View Entry → Type 0
  AlongAt s = Along s.counter s.view s.log

  along_now : (c : ℕ) (v : View) (es : List Entry) → Along c v es → P c v
  along_now c v [] a = a
  along_now c v (e ∷ es) a = a.0

  along_take : (n c : ℕ) (v : View) (es : List Entry) → Along c v es → Along c v (take n es)
  along_take zero c v es a = along_now c v es a
  along_take (suc n) c v [] a = a
  along_take (suc n) c v (e ∷ es) a = (a.0, along_take n c (undo e v) es a.1)

  along_back : (k c : ℕ) (v : View) (es : List Entry) → Along c v es → Along c (undo_all R (take k es) v) (drop k es)
  unfolding undo_all
  along_back zero c v es a = a
  along_back (suc k) c v [] a = a
  along_back (suc k) c v (e ∷ es) a = along_back k c (undo e v) es a.1

  along_higher : Lasts R P → (c d : ℕ) (v : View) (es : List Entry) → c ≤ d → d ≤ last_ticket → Along c v es → Along d v es
  along_higher l c d v [] up fits a = l.at_higher c d v up fits a
  along_higher l c d v (e ∷ es) up fits a = (l.at_higher c d v up fits a.0, along_higher l c d (undo e v) es up fits a.1)

-- ── one call ──

module _ (R : Rules) (L : Lawful R) (P : ℕ → R.View → Type 0) (lasts : Lasts R P) where
  open R use {View, Op, Reply, Entry, last_ticket, save, Sound}

  along_way : (s : State View Entry) (c : Call Op) (y : State View Entry × Answer Reply) → Way R s c y → Sound s.view → s.counter ≤ last_ticket → AlongAt R P s
      → AlongAt R P y.0
  unfolding acted undone
  along_way s c y (stays n) sound fits a = a
  along_way s c y (acts o r w e) sound fits a =
      along_take R P depth next w (save o (ticket_due R o now) v ∷ s.log) (
        lasts.by_operation o now v w r sound e (along_now R P now v s.log a),
        subst (λ (u : View). Along R P next u s.log) (sym (L.undo_save o now v w r sound e))
            (along_higher R P lasts now next v s.log (issued_up R now next new rises) (issued-fits R now next new fits rises) a),
      )
    where
      now : ℕ
      now = s.counter

      next : ℕ
      next = counter_after R o now

      v : View
      v = s.view

      new : List ℕ
      new = issue R (came_to c y.1) []

      rises : Issued R now new next
      rises = issued_way R L s c y (acts o r w e) sound
  along_way s c y (goes k l) sound fits a = along_back R P k s.counter s.view s.log a

-- ── all calls ──

module _ {R : Rules} (S : Session R) (L : Lawful R) (K : Kept S) where
  open R use {View, Op, Reply, Entry, Sound}
  open S use {Bytes, state_in}

  -- WHAT LASTS HOLDS ALWAYS: after any calls from a start that has it
  pub always : (P : ℕ → View → Type 0) → Lasts R P → (b b' : Bytes) (h : History R) → Starts S b → P (counter_in S b) (view_in S b) → Made S b h b'
      → P (counter_in S b') (view_in S b')
  always P lasts b b' h start p made =
      along_now R P (counter_in S b') (view_in S b') (state_in b').log
      (each_way S L K b start (λ (d : List (Done Op Reply)) (ts : List ℕ) (s : State View Entry). AlongAt R P s)
      (λ s c y d ts way held issued a.
      along_way R L P lasts s c y way (held-sound R L (view_in S b) start.sound d s.view s.log held)
      (issued-fits R (counter_in S b) s.counter ts start.fits issued) a)
      (subst (Along R P (counter_in S b) (view_in S b)) (sym start.none_kept) p) h b' made)

  -- the view is sound after any calls
  pub sound-after : (b b' : Bytes) (h : History R) → Starts S b → Made S b h b' → Sound (view_in S b')
  sound-after b b' h start made =
      always (λ (c : ℕ) (v : View). Sound v)
      (record { by_operation = λ o c v w r s e p. L.act_sound o c v w r s e; at_higher = λ c d v up fits p. p }) b b' h start start.sound made
