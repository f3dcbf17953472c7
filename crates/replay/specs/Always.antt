-- What must be shown of a property of counter and view, so that it holds after any calls, whatever was stepped back (proofs/Always.antt).
use Rattle.std.specs.Prelude.{ℕ, ◌≤◌, ◌≡◌}
use Rattle.replay.specs.Rules.{Rules, accept, verdict, counter_after}

module _ (R : Rules) where
  open R use {View, Op, Reply, last_ticket, Sound}

  -- The property P lasts.
  pub record Lasts (P : ℕ → View → Type 0) : Type 0 where
    -- an operation that is accepted on a sound view keeps it
    pub by_operation : (o : Op) (c : ℕ) (v w : View) (r : Reply) → Sound v → verdict R o c v ≡ accept r w → P c v → P (counter_after R o c) w
    -- it survives a higher counter: a step back gives an older view, and the counter stays
    pub at_higher : (c d : ℕ) (v : View) → c ≤ d → d ≤ last_ticket → P c v → P d v
