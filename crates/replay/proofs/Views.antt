-- The view of a session is that of its replay, after every call: what the log holds leads back, step by step, through the operations that stand.
use Prim.Native.Nat.{ℕ, zero, suc, ◌-◌, ◌≤◌}
use native.Mathlib.Nat.{le_of_suc-le-suc, not-suc-le-zero, sub-zero}
use native.Mathlib.Omega.{arith}
use mathlib.Core.Path.{◌≡◌, refl, sym, ap, ◌∙◌, subst}
use mathlib.Core.List.{List, [], ◌∷◌, ◌++◌}
use lib.ListN.{length, take, drop, length-append}
use lib.Seq.{take-append-le, take-length}
use Rattle.replay.specs.Rules.{Rules, Lawful, accept, just_below, ticket_due, verdict}
use Rattle.replay.specs.Demand3.{Call, Answer, Done, State, depth, came_to, without_last, stand, Replay}
use Rattle.replay.specs.Machine.{acted, undo_all, undone}
use Rattle.replay.proofs.Ways.{Way, stays, acts, goes, refused-nothing}

-- ── lists without their last ──

module _ {Op Reply : Type 0} where
  without_none : (d : List (Done Op Reply)) → without_last 0 d ≡ d
  unfolding without_last
  without_none d = ap (λ (n : ℕ). take n d) (sub-zero (length d)) ∙ take-length d

  without_one : (k : ℕ) (d : List (Done Op Reply)) (x : Done Op Reply) → without_last (suc k) (d ++ x ∷ []) ≡ without_last k d
  unfolding without_last
  without_one k d x = ap (λ (n : ℕ). take n (d ++ x ∷ [])) fewer ∙ take-append-le (length d - k) d (x ∷ []) (omega arith)
    where
      fewer : length (d ++ x ∷ []) - suc k ≡ length d - k
      fewer = omega (arith, length-append d (x ∷ []))

-- ── what the log holds ──

module _ (R : Rules) where
  open R use {View, Op, Reply, Entry, save}

  -- The operation x led from the view u to w: the rules accepted it at some counter, under the ticket that was due there.
  pub record Led (x : Done Op Reply) (u w : View) : Type 0 where
    pub counter : ℕ
    pub due : x.ticket ≡ ticket_due R x.operation counter
    pub accepts : verdict R x.operation counter u ≡ accept x.reply w

  -- The operations d led from the view v to w.
  abbrev pub LedBy : View → List (Done Op Reply) → View → Type 0
  LedBy v [] w = v ≡ w
  LedBy v (x ∷ d) w = (m : View) × Led x v m × LedBy m d w

  -- one more operation, the last
  led_one : (v u w : View) (d : List (Done Op Reply)) (x : Done Op Reply) → LedBy v d u → Led x u w → LedBy v (d ++ x ∷ []) w
  led_one v u w [] x p l = (w, subst (λ (m : View). Led x m w) (sym p) l, refl)
  led_one v u w (y ∷ d) x p l = (p.0, p.1, led_one p.0 u w d x p.2 l)

  -- From the view `start` the operations d led to v, and es holds what the newest of them saved.
  abbrev pub Held : View → List (Done Op Reply) → View → List Entry → Type 0
  Held start d v [] = LedBy start d v
  Held start d v (e ∷ es) =
      (older : List (Done Op Reply)) × (x : Done Op Reply) × (u : View) × (d ≡ older ++ x ∷ []) × Led x u v × (save x.operation x.ticket u ≡ e)
      × Held start older u es

  -- the same of a state
  abbrev pub HeldAt : View → List (Done Op Reply) → State View Entry → Type 0
  HeldAt start d s = Held start d s.view s.log

  held_led : (start : View) (d : List (Done Op Reply)) (v : View) (es : List Entry) → Held start d v es → LedBy start d v
  held_led start d v [] h = h
  held_led start d v (e ∷ es) h =
      subst (λ (l : List (Done Op Reply)). LedBy start l v) (sym h.3) (led_one start h.2 v h.0 h.1 (held_led start h.0 h.2 es h.6) h.4)

  -- entries may drop out of the log: what they stand for still stands
  held-take : (n : ℕ) (start : View) (d : List (Done Op Reply)) (v : View) (es : List Entry) → Held start d v es → Held start d v (take n es)
  held-take zero start d v es h = held_led start d v es h
  held-take (suc n) start d v [] h = h
  held-take (suc n) start d v (e ∷ es) h = (h.0, h.1, h.2, h.3, h.4, h.5, held-take n start h.0 h.2 es h.6)

-- ── from a sound view ──

module _ (R : Rules) (L : Lawful R) where
  open R use {View, Op, Reply, Entry, act, save, undo, Sound}
  open L use {act_sound, undo_save, act_again}

  -- an operation that led on leads on when it is played again
  led_again : (x : Done Op Reply) (u w : View) → Sound u → Led R x u w → act x.operation (just_below x.ticket) x.ticket u ≡ accept x.reply w
  led_again x u w s l =
      subst (λ (t : ℕ). act x.operation (just_below t) t u ≡ accept x.reply w) (sym l.due) (act_again x.operation l.counter u w x.reply s l.accepts)

  led_sound : (v w : View) (d : List (Done Op Reply)) → Sound v → LedBy R v d w → Sound w
  led_sound v w [] s p = subst Sound p s
  led_sound v w (x ∷ d) s p = led_sound p.0 w d (act_sound x.operation p.1.counter v p.0 x.reply s p.1.accepts) p.2

  pub led_replay : (v w : View) (d : List (Done Op Reply)) → Sound v → LedBy R v d w → Replay R v d w
  led_replay v w [] s p = p
  led_replay v w (x ∷ d) s p =
      (p.0, led_again x v p.0 s p.1, led_replay p.0 w d (act_sound x.operation p.1.counter v p.0 x.reply s p.1.accepts) p.2)

  module _ (start : View) (start-sound : Sound start) where
    pub held_replay : (d : List (Done Op Reply)) (v : View) (es : List Entry) → Held R start d v es → Replay R start d v
    held_replay d v es h = led_replay start v d start-sound (held_led R start d v es h)

    pub held-sound : (d : List (Done Op Reply)) (v : View) (es : List Entry) → Held R start d v es → Sound v
    held-sound d v es h = led_sound start v d start-sound (held_led R start d v es h)

    -- k entries undone lead back over the last k operations
    held_back : (k : ℕ) (d : List (Done Op Reply)) (v : View) (es : List Entry) → k ≤ length es → Held R start d v es
        → Held R start (without_last k d) (undo_all R (take k es) v) (drop k es)
    unfolding undo_all
    held_back zero d v es l h = rw (without_none d) h
    held_back (suc k) d v [] l h = absurd (not-suc-le-zero l)
    held_back (suc k) d v (e ∷ es) l h =
        subst (λ (u : View). Held R start (without_last (suc k) d) (undo_all R (take k es) u) (drop k es)) (sym back_one)
        (subst (λ (m : List (Done Op Reply)). Held R start m (undo_all R (take k es) h.2) (drop k es)) (sym shorter)
        (held_back k h.0 h.2 es (le_of_suc-le-suc l) h.6))
      where
        shorter : without_last (suc k) d ≡ without_last k h.0
        shorter = ap (without_last (suc k)) h.3 ∙ without_one k h.0 h.1

        back_one : undo e v ≡ h.2
        back_one =
            ap (λ (y : Entry). undo y v) (sym h.5)
            ∙ ap (λ (t : ℕ). undo (save h.1.operation t h.2) v) h.4.due
            ∙ undo_save h.1.operation h.4.counter h.2 v h.1.reply (held-sound h.0 h.2 es h.6) h.4.accepts

    -- ── one call ──

    pub held_way : (s : State View Entry) (c : Call Op) (y : State View Entry × Answer Reply) (d : List (Done Op Reply)) → Way R s c y → HeldAt R start d s
        → HeldAt R start (stand (came_to c y.1) d) y.0
    unfolding acted undone stand came_to
    held_way s c y d (stays n) h = rw (refused-nothing c n) h
    held_way s c y d (acts o r w e) h =
        held-take R depth start (d ++ done ∷ []) w (save o done.ticket s.view ∷ s.log)
        (d, done, s.view, refl, record { counter = s.counter; due = refl; accepts = e }, refl, h)
      where
        done : Done Op Reply
        done = record { operation = o; ticket = ticket_due R o s.counter; reply = r }
    held_way s c y d (goes k l) h = held_back k d s.view s.log l h
