-- DEMAND 3, over any rules: what holds of a session after any calls, whatever was stepped back. It is proved in proofs/Demand.antt.
--     came_to      what a call came to, by its answer         standing    the operations that were accepted and not stepped back
--     Replay      those played again, the oldest first       tickets     the tickets issued
--     kept        the entries kept, by the entry rule        Demand3     the demand, of a session in bytes
use Rattle.std.specs.Prelude.{ℕ, suc, ◌-◌, ◌≤◌, ◌<◌, min}
use mathlib.Core.{Path.◌≡◌, Logic.◌≢◌, Bool.cond, List.List, List.[], List.◌∷◌, List.◌++◌}
use lib.{Dec.leb, ListN.length, ListN.take, ListN.get_or}
use Rattle.replay.specs.Rules.{Rules, Outcome, refuse, accept, just_below, ticket_due, verdict}

-- the entries that are kept at most
unfoldable pub depth : ℕ
depth = 128

-- ── calls and answers ──

-- A call is an operation with its arguments, or a step back of k.
pub data Call (Op : Type 0) : Type 0 where
  op : Op → Call Op
  back : ℕ → Call Op

-- An answer: the operation was taken, under this ticket (0: it is no grant) and with this reply; or the session went back, and keeps that many
-- entries now; or the call was refused, with the number of the refusal.
pub data Answer (Reply : Type 0) : Type 0 where
  took : ℕ → Reply → Answer Reply
  went_back : ℕ → Answer Reply
  refused : ℕ → Answer Reply

-- the answer to an operation under the ticket t, by what the rules say of it
unfoldable pub op_answer : {View Reply : Type 0} → ℕ → Outcome View Reply → Answer Reply
op_answer t (refuse n) = refused n
op_answer t (accept r w) = took t r

-- A call with its answer.
pub record Exchange (Op Reply : Type 0) : Type 0 where
  pub call : Call Op
  pub answer : Answer Reply

-- An operation that was taken: the ticket that it got, and the reply.
pub record Done (Op Reply : Type 0) : Type 0 where
  pub operation : Op
  pub ticket : ℕ
  pub reply : Reply

-- What a call came to: an operation taken, which is one entry; a step back of k taken; or nothing.
pub data CameTo (Op Reply : Type 0) : Type 0 where
  entry : Done Op Reply → CameTo Op Reply
  step_back : ℕ → CameTo Op Reply
  nothing : CameTo Op Reply

-- ── what is read off calls and answers alone ──

module _ {Op Reply : Type 0} where
  -- what a call came to, by its answer: a refused call came to nothing (and no contract gives the two pairs of call and answer that do not fit)
  unfoldable pub came_to : Call Op → Answer Reply → CameTo Op Reply
  came_to (op o) (took t r) = entry (record { operation = o; ticket = t; reply = r })
  came_to (op o) (went_back n) = nothing
  came_to (op o) (refused n) = nothing
  came_to (back k) (took t r) = nothing
  came_to (back k) (went_back n) = step_back k
  came_to (back k) (refused n) = nothing

  -- what is read off calls and answers one after another, the first call first
  unfoldable pub read_off : {A : Type 0} → (CameTo Op Reply → A → A) → A → List (Exchange Op Reply) → A
  read_off f a [] = a
  read_off f a (x ∷ xs) = read_off f (f (came_to x.call x.answer) a) xs

  -- a list without its last k
  unfoldable pub without_last : ℕ → List (Done Op Reply) → List (Done Op Reply)
  without_last k d = take (length d - k) d

  -- an accepted operation joins those that stand, at the end; a step back of k takes the last k away
  unfoldable pub stand : CameTo Op Reply → List (Done Op Reply) → List (Done Op Reply)
  stand (entry x) d = d ++ x ∷ []
  stand (step_back k) d = without_last k d
  stand nothing d = d

  -- THE OPERATIONS THAT STAND: accepted and not stepped back, the oldest first
  unfoldable pub standing : List (Exchange Op Reply) → List (Done Op Reply)
  standing = read_off stand []

  -- THE ENTRY RULE: one more at an accepted operation, up to `depth`; k fewer at a step back of k
  unfoldable pub keep : CameTo Op Reply → ℕ → ℕ
  keep (entry x) n = min depth (suc n)
  keep (step_back k) n = n - k
  keep nothing n = n

  -- the entries kept, by the entry rule
  unfoldable pub kept : List (Exchange Op Reply) → ℕ
  kept = read_off keep 0

-- ── sessions of some rules ──

-- What a session's bytes stand for: the view, the ticket counter, and the entries kept, the newest first
pub record State (View Entry : Type 0) : Type 0 where
  pub view : View
  pub counter : ℕ
  pub log : List Entry

module _ (R : Rules) where
  open R use {View, Op, Reply, Entry, grants, last_ticket, too_far_back, act}

  -- the answer to a step back of k where n entries are kept: accepted exactly when k is at most n
  unfoldable pub back_answer : ℕ → ℕ → Answer Reply
  back_answer k n = cond (leb k n) (went_back (n - k)) (refused too_far_back)

  -- calls of any kind with their answers, refused ones too, the first call first
  abbrev pub History : Type 0
  History = List (Exchange Op Reply)

  -- an accepted grant issues its ticket
  unfoldable pub issue : CameTo Op Reply → List ℕ → List ℕ
  issue (entry x) ts = cond (grants x.operation) (ts ++ x.ticket ∷ []) ts
  issue (step_back k) ts = ts
  issue nothing ts = ts

  -- THE TICKETS ISSUED, those of stepped-back grants too, the first one first
  unfoldable pub tickets : History → List ℕ
  tickets = read_off issue []

  -- The tickets ts, issued one after another where the counter stood at c, leave it at d: each is above the counter before it, is not above the
  -- last ticket, and is the counter after it.
  abbrev pub Issued : ℕ → List ℕ → ℕ → Type 0
  Issued c [] d = c ≡ d
  Issued c (t ∷ ts) d = (c < t) × (t ≤ last_ticket) × Issued t ts d

  -- THE REPLAY: from the view v the operations lead to w, the oldest played first, each under the ticket that it got, where the counter stands just
  -- below that ticket; and each is accepted again, with the reply that it got
  abbrev pub Replay : View → List (Done Op Reply) → View → Type 0
  Replay v [] w = v ≡ w
  Replay v (x ∷ later) w = (m : View) × (act x.operation (just_below x.ticket) x.ticket v ≡ accept x.reply m) × Replay m later w

  -- A session that is kept in what a caller lends.
  pub record Session : Type 1 where
    -- what the caller lends, as a contract sees it: most often a list of bytes
    pub Bytes : Type 0
    -- what the bytes stand for
    pub state_in : Bytes → State View Entry
    -- what holds of all bytes that the session's own calls make
    pub Ready : Bytes → Type 0
    -- the contracts: what they say of the bytes before a call, the call, its answer, and the bytes after it
    pub Did : Bytes → Call Op → Answer Reply → Bytes → Type 0

-- ── the demand ──

module _ {R : Rules} (S : Session R) where
  open R use {View, Op, Reply, last_ticket, Sound}
  open S use {Bytes, state_in, Ready, Did}

  -- the view in the bytes
  abbrev pub view_in : Bytes → View
  view_in b = (state_in b).view

  -- the ticket counter in the bytes
  abbrev pub counter_in : Bytes → ℕ
  counter_in b = (state_in b).counter

  -- the number of entries that the bytes keep
  abbrev pub kept_in : Bytes → ℕ
  kept_in b = length (state_in b).log

  -- Where demand 3 may start: a sound view, any counter that fits, and no entries kept. The empty session is one of these.
  pub record Starts (b : Bytes) : Type 0 where
    pub ready : Ready b
    pub sound : Sound (view_in b)
    pub fits : counter_in b ≤ last_ticket
    pub none_kept : (state_in b).log ≡ []

  -- The bytes b became b' by these calls, with these answers, and by nothing else.
  abbrev pub Made : Bytes → History R → Bytes → Type 0
  Made b [] b' = b ≡ b'
  Made b (x ∷ xs) b' = (m : Bytes) × Did b x.call x.answer m × Made m xs b'

  -- What holds of one call where n entries are kept.
  pub record OneCall (n : ℕ) (b : Bytes) (c : Call Op) (a : Answer Reply) (b' : Bytes) : Type 0 where
    -- a refused call leaves every byte as it was
    pub refusal_same : (m : ℕ) → a ≡ refused m → b' ≡ b
    -- an operation is answered as the rules say
    pub op_answered : (o : Op) → c ≡ op o → a ≡ op_answer (ticket_due R o (counter_in b)) (verdict R o (counter_in b) (view_in b))
    -- a step back of k is accepted exactly when k is at most n
    pub back_answered : (k : ℕ) → c ≡ back k → a ≡ back_answer R k n
    -- the counter never falls
    pub never_falls : counter_in b ≤ counter_in b'
    -- a ticket issued is above the counter before the call, and is the counter after it; where none is issued, the counter stays
    pub ticket_new : Issued R (counter_in b) (issue R (came_to c a) []) (counter_in b')

  -- DEMAND 3: of bytes b, of calls and answers, and of the bytes b' that they left.
  pub record Demand3 (b : Bytes) (h : History R) (b' : Bytes) : Type 0 where
    -- the view is what the start gets from the operations that stand
    pub replayed : Replay R (view_in b) (standing h) (view_in b')
    -- the tickets issued rise from the counter at the start to the counter now
    pub tickets_rise : Issued R (counter_in b) (tickets R h) (counter_in b')
    -- so no ticket is issued twice, also where its grant was stepped back
    pub tickets_once : (i j : ℕ) → i < j → j < length (tickets R h) → get_or (tickets R h) i 0 ≢ get_or (tickets R h) j 0
    -- and none is above the last one
    pub counter_fits : counter_in b' ≤ last_ticket
    -- the entries kept are as many as the entry rule says
    pub kept_is : kept_in b' ≡ kept h
    -- never more than `depth`
    pub kept_few : kept_in b' ≤ depth
    -- and of whatever call comes next (so of every call, since h is any history)
    pub next : (c : Call Op) (a : Answer Reply) (b'' : Bytes) → Did b' c a b'' → OneCall (kept h) b' c a b''
