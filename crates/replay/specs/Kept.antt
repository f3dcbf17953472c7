-- What a session that is kept in bytes has to show, so that demand 3 holds of it: its contracts do there what the machine does.
use Rattle.std.specs.Prelude.{ℕ, ◌≡◌}
use Rattle.replay.specs.{Rules.Rules, Demand3.Call, Demand3.Answer, Demand3.refused, Demand3.Session, Demand3.view_in, Machine.step}

module _ {R : Rules} (S : Session R) where
  open R use {Op, Reply, Sound}
  open S use {Bytes, state_in, Ready, Did}

  -- What one call, by its contract, must come to.
  pub record Steps (b : Bytes) (c : Call Op) (a : Answer Reply) (b' : Bytes) : Type 0 where
    -- the bytes are ready for the next call
    pub ready : Ready b'
    -- they stand for the machine's next state
    pub state : state_in b' ≡ (step R (state_in b) c).0
    -- and the answer is the machine's
    pub answer : a ≡ (step R (state_in b) c).1

  pub record Kept : Type 0 where
    -- on ready bytes with a sound view each call does what the machine does
    pub steps : (b : Bytes) (c : Call Op) (a : Answer Reply) (b' : Bytes) → Ready b → Sound (view_in S b) → Did b c a b' → Steps b c a b'
    -- a refused call leaves the bytes as they were, whatever bytes they are
    pub refusal_same : (b : Bytes) (c : Call Op) (n : ℕ) (b' : Bytes) → Did b c (refused n) b' → b' ≡ b
