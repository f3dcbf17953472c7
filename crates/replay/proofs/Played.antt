-- Where no grant was stepped back, the operations that stand, played as calls from the same start, come to the same view, counter and tickets.
use Prim.Native.Nat.{ℕ, zero, suc, ◌+◌, ◌-◌, ◌≤◌}
use native.Mathlib.Omega.{arith}
use mathlib.Core.Path.{◌≡◌, refl, sym, ap, ap₂, ◌∙◌, subst, subst₂}
use mathlib.Core.Bool.{Bool, true, false, cond}
use mathlib.Core.List.{List, [], ◌∷◌, ◌++◌, append_assoc, append-nil}
use lib.ListN.{length, take, length-append}
use Rattle.replay.specs.Rules.{Rules, Lawful, Outcome, accept, ticket_due, verdict, counter_after}
use Rattle.replay.specs.Demand3.{Call, op, Answer, took, Exchange, Done, CameTo, entry, step_back, nothing, State, History, Session}
use Rattle.replay.specs.Demand3.{came_to, read_off, without_last, stand, standing, issue, tickets, op_answer, view_in, counter_in, Starts, Made}
use Rattle.replay.specs.Machine.{acted, undone, step}
use Rattle.replay.specs.Kept.{Steps, Kept}
use Rattle.replay.specs.Played.{calls_of, as_calls, tickets_of, GrantsStand, Same}
use Rattle.replay.proofs.Ways.{Way, stays, acts, goes, refused-nothing}
use Rattle.replay.proofs.Views.{LedBy, HeldAt, led_replay, held_replay, held_way}
use Rattle.replay.proofs.Fixed.{replay_fixed}
use Rattle.replay.proofs.Demand.{each_way}

module _ (R : Rules) where
  open R use {View, Op, Reply, grants}

  -- ── how many grants ──

  -- one for a grant
  weight : Done Op Reply → ℕ
  weight x = cond (grants x.operation) 1 0

  abbrev count : List (Done Op Reply) → ℕ
  count d = length (tickets_of R d)

  count-cons : (x : Done Op Reply) (d : List (Done Op Reply)) → count (x ∷ d) ≡ weight x + count d
  unfolding weight
  count-cons x d = go (grants x.operation)
    where
      go : (g : Bool) → length (cond g (x.ticket ∷ tickets_of R d) (tickets_of R d)) ≡ cond g 1 0 + count d
      go true = omega arith
      go false = omega arith

  count-one : (d : List (Done Op Reply)) (x : Done Op Reply) → count (d ++ x ∷ []) ≡ count d + weight x
  count-one [] x = omega (arith, count-cons x [])
  count-one (y ∷ d) x = omega (arith, count-cons y (d ++ x ∷ []), count-cons y d, count-one d x)

  count-take : (m : ℕ) (d : List (Done Op Reply)) → count (take m d) ≤ count d
  count-take zero d = omega arith
  count-take (suc m) [] = omega arith
  count-take (suc m) (x ∷ d) = omega (arith, count-cons x (take m d), count-cons x d, count-take m d)

  -- a call adds at least as many tickets issued as grants that stand
  lag : (x : CameTo Op Reply) (d : List (Done Op Reply)) (ts : List ℕ) → count (stand x d) + length ts ≤ length (issue R x ts) + count d
  unfolding stand issue without_last weight
  lag (entry x) d ts = omega (arith, count-one d x, more (grants x.operation))
    where
      more : (g : Bool) → length (cond g (ts ++ x.ticket ∷ []) ts) ≡ length ts + cond g 1 0
      more true = length-append ts (x.ticket ∷ [])
      more false = omega arith
  lag (step_back k) d ts = omega (arith, count-take (length d - k) d)
  lag nothing d ts = omega arith

  -- a ticket issued comes before those of the operations that follow
  issue-cons : (x : Done Op Reply) (ts : List ℕ) (d : List (Done Op Reply)) → issue R (entry x) ts ++ tickets_of R d ≡ ts ++ tickets_of R (x ∷ d)
  unfolding issue
  issue-cons x ts d = go (grants x.operation)
    where
      go : (g : Bool) → cond g (ts ++ x.ticket ∷ []) ts ++ tickets_of R d ≡ ts ++ cond g (x.ticket ∷ tickets_of R d) (tickets_of R d)
      go true = append_assoc ts (x.ticket ∷ []) (tickets_of R d)
      go false = refl

  -- ── counter and view along the operations that stand ──

  -- From the counter c and the view v on, each of the operations was accepted under the ticket that was due, and they leave the counter at e and the view w.
  abbrev Counted : ℕ → View → List (Done Op Reply) → ℕ → View → Type 0
  Counted c v [] e w = (c ≡ e) × (v ≡ w)
  Counted c v (x ∷ d) e w =
      (x.ticket ≡ ticket_due R x.operation c) × (m : View) × (verdict R x.operation c v ≡ accept x.reply m) × Counted (counter_after R x.operation c) m d e w

  counted-one : (c n : ℕ) (v u w : View) (d : List (Done Op Reply)) (x : Done Op Reply) → Counted c v d n u → x.ticket ≡ ticket_due R x.operation n
      → verdict R x.operation n u ≡ accept x.reply w → Counted c v (d ++ x ∷ []) (counter_after R x.operation n) w
  counted-one c n v u w [] x p t e = rw (p.0, p.1) (t, w, e, (refl, refl))
  counted-one c n v u w (y ∷ d) x p t e = (p.0, p.1, p.2, counted-one (counter_after R y.operation c) n p.1 u w d x p.3 t e)

  counter-same : (x : Done Op Reply) (c : ℕ) → weight x ≤ 0 → counter_after R x.operation c ≡ c
  unfolding weight counter_after
  counter-same x c l = go (grants x.operation) l
    where
      go : (g : Bool) → cond g 1 0 ≤ 0 → cond g (R.ticket_for x.operation c) c ≡ c
      go true l = absurd (omega arith)
      go false l = refl

  -- where none is a grant, the counter stays
  counted_none : (c e : ℕ) (v w : View) (d : List (Done Op Reply)) → Counted c v d e w → count d ≤ 0 → c ≡ e
  counted_none c e v w [] p l = p.0
  counted_none c e v w (x ∷ d) p l =
      sym (counter-same x c (omega (arith, count-cons x d)))
      ∙ counted_none (counter_after R x.operation c) e p.1 w d p.3 (omega (arith, count-cons x d))

  -- the first m of them, where no grant is among the others: they leave the same counter, and some view
  counted-take : (m c e : ℕ) (v w : View) (d : List (Done Op Reply)) → Counted c v d e w → count d ≤ count (take m d) → (u : View) × Counted c v (take m d) e u
  counted-take zero c e v w d p l = (v, (counted_none c e v w d p l, refl))
  counted-take (suc m) c e v w [] p l = (w, p)
  counted-take (suc m) c e v w (x ∷ d) p l =
      let rest = counted-take m (counter_after R x.operation c) e p.1 w d p.3 (omega (arith, count-cons x (take m d), count-cons x d)) in
      (rest.0, (p.0, p.1, p.2, rest.1))

  counted_led : (c e : ℕ) (v w : View) (d : List (Done Op Reply)) → Counted c v d e w → LedBy R v d w
  counted_led c e v w [] p = p.1
  counted_led c e v w (x ∷ d) p =
      (p.1, record { counter = c; due = p.0; accepts = p.2 }, counted_led (counter_after R x.operation c) e p.1 w d p.3)

module _ (R : Rules) (L : Lawful R) (c₀ : ℕ) (v₀ : R.View) (sound : R.Sound v₀) where
  open R use {View, Op, Reply, Entry}

  -- a step back over no grant: the view that the log leads back to is the view there
  counted_back : (s : State View Entry) (k : ℕ) (d : List (Done Op Reply)) → HeldAt R v₀ (without_last k d) (undone R k s) → count R d ≤ count R (without_last k d)
      → Counted R c₀ v₀ d s.counter s.view → Counted R c₀ v₀ (without_last k d) s.counter (undone R k s).view
  unfolding without_last
  counted_back s k d held l p =
      let t = counted-take R (length d - k) c₀ s.counter v₀ s.view d p l in
      subst (Counted R c₀ v₀ (without_last k d) s.counter)
      (replay_fixed R (without_last k d) v₀ t.0 (undone R k s).view
      (led_replay R L v₀ t.0 (without_last k d) sound (counted_led R c₀ s.counter v₀ t.0 (without_last k d) t.1))
      (held_replay R L v₀ sound (without_last k d) (undone R k s).view (undone R k s).log held))
      t.1

  counted_way : (s : State View Entry) (c : Call Op) (y : State View Entry × Answer Reply) (d : List (Done Op Reply)) (ts : List ℕ) → Way R s c y
      → HeldAt R v₀ (stand (came_to c y.1) d) y.0 → count R d ≤ length ts → length (issue R (came_to c y.1) ts) ≤ count R (stand (came_to c y.1) d)
      → Counted R c₀ v₀ d s.counter s.view → Counted R c₀ v₀ (stand (came_to c y.1) d) y.0.counter y.0.view
  unfolding acted undone came_to stand issue
  counted_way s c y d ts (stays n) held l m p = rw (refused-nothing c n) p
  counted_way s c y d ts (acts o r w e) held l m p =
      counted-one R c₀ s.counter v₀ s.view w d (record { operation = o; ticket = ticket_due R o s.counter; reply = r }) p refl e
  counted_way s c y d ts (goes k g) held l m p = counted_back s k d held (omega arith) p

  -- No more grants stand than tickets were issued; and where as many do, counter and view are those of the operations that stand.
  abbrev Counts : List (Done Op Reply) → List ℕ → State View Entry → Type 0
  Counts d ts s = (count R d ≤ length ts) × (length ts ≤ count R d → Counted R c₀ v₀ d s.counter s.view)

  counts_way : (s : State View Entry) (c : Call Op) (y : State View Entry × Answer Reply) (d : List (Done Op Reply)) (ts : List ℕ) → Way R s c y
      → HeldAt R v₀ d s → Counts d ts s → Counts (stand (came_to c y.1) d) (issue R (came_to c y.1) ts) y.0
  counts_way s c y d ts w held p =
      let behind = lag R (came_to c y.1) d ts in
      let most = p.0 in
      (omega arith, λ l. counted_way s c y d ts w (held_way R L v₀ sound s c y d w held) most l (p.1 (omega arith)))

module _ {R : Rules} (S : Session R) (L : Lawful R) (K : Kept S) where
  open R use {View, Op, Reply, Entry, Sound}
  open S use {Bytes, state_in, Ready, Did}

  -- ── the history: where no grant is missing, counter and view are those of the operations that stand ──

  counted-history : (b b' : Bytes) (h : History R) → Starts S b → Made S b h b' → GrantsStand R h
      → Counted R (counter_in S b) (view_in S b) (standing h) (counter_in S b') (view_in S b')
  counted-history b b' h start m g =
      (each_way S L K b start (Counts R L (counter_in S b) (view_in S b) start.sound)
      (λ s c y d ts w held issued p. counts_way R L (counter_in S b) (view_in S b) start.sound s c y d ts w held p) (omega arith, λ _. (refl, refl)) h b' m).1
      (omega (arith, ap length g))

  -- ── the play ──

  -- an operation that the rules accept acts, and is answered with its ticket and reply
  step_acts : (s : State View Entry) (o : Op) (r : Reply) (w : View) → verdict R o s.counter s.view ≡ accept r w
      → step R s (op o) ≡ (acted R o s (accept r w), took (ticket_due R o s.counter) r)
  unfolding step op_answer
  step_acts s o r w e = ap (λ (x : Outcome View Reply). (acted R o s x, op_answer (ticket_due R o s.counter) x)) e

  -- One of the operations played as a call: it acts again, under the same ticket and with the same reply.
  record PlaysOne (y : Done Op Reply) (w : View) (b : Bytes) (x : Exchange Op Reply) (m : Bytes) : Type 0 where
    ready : Ready m
    view : view_in S m ≡ w
    counter : counter_in S m ≡ counter_after R y.operation (counter_in S b)
    came : came_to x.call x.answer ≡ entry y

  plays_one : (y : Done Op Reply) (w : View) (b : Bytes) (x : Exchange Op Reply) (m : Bytes) → Ready b → Sound (view_in S b) → x.call ≡ op y.operation
      → y.ticket ≡ ticket_due R y.operation (counter_in S b) → verdict R y.operation (counter_in S b) (view_in S b) ≡ accept y.reply w → Did b x.call x.answer m
      → PlaysOne y w b x m
  unfolding acted came_to
  plays_one y w b x m ready sound e due accepts did =
      record {
        ready = did_step.ready;
        view = ap (λ (s : State View Entry × Answer Reply). s.0.view) again;
        counter = ap (λ (s : State View Entry × Answer Reply). s.0.counter) again;
        came = ap₂ came_to e (ap (λ (s : State View Entry × Answer Reply). s.1) again ∙ ap (λ (t : ℕ). took t y.reply) (sym due));
      }
    where
      did_step : Steps S b x.call x.answer m
      did_step = K.steps b x.call x.answer m ready sound did

      again : ◌≡◌ {A = State View Entry × Answer Reply} (state_in m, x.answer) (acted R y.operation (state_in b) (accept y.reply w), took (ticket_due R y.operation (counter_in S b)) y.reply)
      again = (λ i. (did_step.state i, did_step.answer i)) ∙ ap (step R (state_in b)) e ∙ step_acts (state_in b) y.operation y.reply w accepts

  -- The operations d played as the calls of g, after the operations p and the tickets ts.
  record Plays (p d : List (Done Op Reply)) (ts : List ℕ) (w : View) (e : ℕ) (g : History R) (b'' : Bytes) : Type 0 where
    view : view_in S b'' ≡ w
    counter : counter_in S b'' ≡ e
    stands : read_off stand p g ≡ p ++ d
    issued : read_off (issue R) ts g ≡ ts ++ tickets_of R d

  plays : (d : List (Done Op Reply)) (g : History R) (p : List (Done Op Reply)) (ts : List ℕ) (w : View) (e : ℕ) (b b'' : Bytes) → Ready b → Sound (view_in S b)
      → calls_of R g ≡ as_calls R d → Counted R (counter_in S b) (view_in S b) d e w → Made S b g b'' → Plays p d ts w e g b''
  unfolding read_off stand
  plays [] [] p ts w e b b'' ready sound q c m =
      record { view = ap (view_in S) (sym m) ∙ c.1; counter = ap (counter_in S) (sym m) ∙ c.0; stands = sym (append-nil p); issued = sym (append-nil ts) }
  plays [] (x ∷ g) p ts w e b b'' ready sound q c m = let z : ◌≡◌ {A = ℕ} 0 1 = cc in absurd (omega arith)
  plays (y ∷ d) [] p ts w e b b'' ready sound q c m = let z : ◌≡◌ {A = ℕ} 0 1 = cc in absurd (omega arith)
  plays (y ∷ d) (x ∷ g) p ts w e b b'' ready sound q c m =
      let one = plays_one y c.1 b x m.0 ready sound (cc) c.0 c.2 m.1 in
      let rest =
      plays d g (p ++ y ∷ []) (issue R (entry y) ts) w e m.0 b'' one.ready
      (subst Sound (sym one.view) (L.act_sound y.operation (counter_in S b) (view_in S b) c.1 y.reply sound c.2)) (cc)
      (subst₂ (λ (n : ℕ) (u : View). Counted R n u d e w) (sym one.counter) (sym one.view) c.3) m.2 in
      record {
        view = rest.view;
        counter = rest.counter;
        stands = ap (λ (a : CameTo Op Reply). read_off stand (stand a p) g) one.came ∙ rest.stands ∙ append_assoc p (y ∷ []) d;
        issued = ap (λ (a : CameTo Op Reply). read_off (issue R) (issue R a ts) g) one.came ∙ rest.issued ∙ issue-cons R y ts d;
      }

  -- THE LAW
  pub played : (b b' b'' : Bytes) (h g : History R) → Starts S b → Made S b h b' → GrantsStand R h → Made S b g b'' → calls_of R g ≡ as_calls R (standing h)
      → Same S h b' g b''
  unfolding standing tickets
  played b b' b'' h g start made stay play q = record { view = p.view; counter = p.counter; stands = p.stands; issued = p.issued ∙ sym stay }
    where
      p : Plays [] (standing h) [] (view_in S b') (counter_in S b') g b''
      p =
          plays (standing h) g [] [] (view_in S b') (counter_in S b') b b'' start.ready start.sound q
          (counted-history b b' h start made stay) play
