-- What a kind of session gives, so that demand 3 (Demand3.antt) can be said of it: its operations, what each does to the view, and how the log
-- undoes it. `Rules` is what the rules are; `Lawful` is what must be proved of them.
use Rattle.std.specs.Prelude.{ℕ, ◌-◌, ◌≤◌, ◌<◌}
use mathlib.Core.{Path.◌≡◌, Bool.Bool, Bool.true, Bool.cond}

-- What the rules say of one operation: refused, with the number of the refusal; or accepted, with the reply and the view afterwards.
pub data Outcome (View Reply : Type 0) : Type 0 where
  refuse : ℕ → Outcome View Reply
  accept : Reply → View → Outcome View Reply

pub record Rules : Type 1 where
  -- all that the replay compares: trains, slots, modes, ends, orders. Not the ticket counter, and not the log
  pub View : Type 0
  -- the operations with their arguments, step-back apart
  pub Op : Type 0
  -- what an accepted operation answers
  pub Reply : Type 0
  -- what the log keeps of an accepted operation
  pub Entry : Type 0
  -- is the operation a grant, which takes a ticket?
  pub grants : Op → Bool
  -- the ticket that a grant gets where the counter stands at this number
  pub ticket_for : Op → ℕ → ℕ
  -- the last ticket that a grant may take
  pub last_ticket : ℕ
  -- the refusal of a step back by more than the entries kept
  pub too_far_back : ℕ
  -- an operation where the counter stands at the first number, under the ticket that is the second (0: it is no grant), on a view. Both are
  -- arguments, so an operation and its replay are one rule
  pub act : Op → ℕ → ℕ → View → Outcome View Reply
  -- the entry that an operation under a ticket leaves, from the view before it
  pub save : Op → ℕ → View → Entry
  -- an entry undone, on the view after its operation
  pub undo : Entry → View → View
  -- what holds of every view that a session has (`Unit`, where the laws need nothing)
  pub Sound : View → Type 0

-- where the counter stands when an operation is played again under its ticket: just below it (at 0, where there is no ticket)
abbrev pub just_below : ℕ → ℕ
just_below t = t - 1

module _ (R : Rules) where
  open R use {View, Op, Reply, grants, ticket_for, last_ticket, act, save, undo, Sound}

  -- the ticket that an operation gets where the counter stands at c: 0, if it is no grant
  unfoldable pub ticket_due : Op → ℕ → ℕ
  ticket_due o c = cond (grants o) (ticket_for o c) 0

  -- what the rules say of an operation where the counter stands at c
  unfoldable pub verdict : Op → ℕ → View → Outcome View Reply
  verdict o c v = act o c (ticket_due o c) v

  -- the counter after an accepted operation: the ticket, if it is a grant
  unfoldable pub counter_after : Op → ℕ → ℕ
  counter_after o c = cond (grants o) (ticket_for o c) c

  -- What must be proved of the rules: of an operation that is accepted where the counter stands at c and the view v is sound.
  pub record Lawful : Type 0 where
    -- it leads to a sound view
    pub act_sound : (o : Op) (c : ℕ) (v w : View) (r : Reply) → Sound v → verdict o c v ≡ accept r w → Sound w
    -- its entry leads from the view after it back to the view before it
    pub undo_save : (o : Op) (c : ℕ) (v w : View) (r : Reply) → Sound v → verdict o c v ≡ accept r w → undo (save o (ticket_due o c) v) w ≡ v
    -- it is accepted alike where the counter stands just below its ticket
    pub act_again : (o : Op) (c : ℕ) (v w : View) (r : Reply) → Sound v → verdict o c v ≡ accept r w
        → act o (just_below (ticket_due o c)) (ticket_due o c) v ≡ accept r w
    -- if it is a grant, its ticket is above the counter, and not above the last ticket
    pub ticket_fits : (o : Op) (c : ℕ) (v w : View) (r : Reply) → Sound v → verdict o c v ≡ accept r w → grants o ≡ true
        → (c < ticket_due o c) × (ticket_due o c ≤ last_ticket)
