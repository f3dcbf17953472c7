-- THE C FUNCTIONS ARE THE SESSION'S. For each operation under its name in C: the contract that the function was proved to meet asks nothing, and what it
-- promises of the answer and of the lent bytes IS what the theorem says of session's operation. Each is `refl`: one proposition, not two.
use mathlib.Core.Path.{refl}
use mathlib.Core.List.{List}
use Prim.Native.Nat.{ℕ}
use contract.Lifetimes.{Lfts}
use borrow.Fn.World.{World}
use denote.Ref.{Bor}
use denote.MutBor.{MutBor}
use Rattle.replay.specs.Demand3.{op}
use Rattle.rules.specs.Deeds.{Deed, flags, position, authority, danger, clear}
use Rattle.rules.specs.Rules.{on}
use Rattle.rules.specs.declared.ruling.Answer.{Answer}
use Rattle.standing.specs.Functions.{Came, came_of, request_came, release_came, sos_came, step_back_came, start_came}
use Rattle.standing.specs.Standing.{answered, bytes_left}
use Rattle.standing.proofs.Links.{Says}
use Rattle.host.proofs.operations
use Rattle.host.specs.Kinds.{loco, ticket}

-- a deed on the train with a loco number and a ticket
abbrev deed_came : ℕ → ℕ → Deed → List ℕ → Came
deed_came number under deed = came_of (op (on (loco number) (ticket under) deed))

module _ (w : World) (before after : MutBor (List ℕ)) (r : Answer) where
  module _ (κs : Lfts 1) where
    pub kb_start : Says w before after r (operations.kb_start.Reads.requires κs) (operations.kb_start.Reads.ensures κs) tt start_came
    kb_start = (refl, refl)

    pub kb_request : (number bytes : ℕ)
        → Says w before after r (operations.kb_request.Reads.requires κs) (operations.kb_request.Reads.ensures κs) (number, (bytes, tt)) (request_came (loco number) bytes)
    unfolding answered bytes_left
    kb_request number bytes = (refl, refl)

    pub kb_release : (number under : ℕ)
        → Says w before after r (operations.kb_release.Reads.requires κs) (operations.kb_release.Reads.ensures κs) (number, (under, tt)) (release_came (loco number) (ticket under))
    unfolding answered bytes_left
    kb_release number under = (refl, refl)

    pub kb_position : (number under front rear : ℕ)
        → Says w before after r (operations.kb_position.Reads.requires κs) (operations.kb_position.Reads.ensures κs) (number, (under, (front, (rear, tt))))
        (deed_came number under (position front rear))
    unfolding answered bytes_left
    kb_position number under front rear = (refl, refl)

    pub kb_authority : (number under end : ℕ)
        → Says w before after r (operations.kb_authority.Reads.requires κs) (operations.kb_authority.Reads.ensures κs) (number, (under, (end, tt)))
        (deed_came number under (authority end))
    unfolding answered bytes_left
    kb_authority number under end = (refl, refl)

    pub kb_danger : (number under location : ℕ)
        → Says w before after r (operations.kb_danger.Reads.requires κs) (operations.kb_danger.Reads.ensures κs) (number, (under, (location, tt)))
        (deed_came number under (danger location))
    unfolding answered bytes_left
    kb_danger number under location = (refl, refl)

    pub kb_clear : (number under other : ℕ)
        → Says w before after r (operations.kb_clear.Reads.requires κs) (operations.kb_clear.Reads.ensures κs) (number, (under, (other, tt)))
        (deed_came number under (clear (ticket other)))
    unfolding answered bytes_left
    kb_clear number under other = (refl, refl)

    -- L2 is named first
    pub kb_sos : (number2 under2 number1 under1 grid : ℕ)
        → Says w before after r (operations.kb_sos.Reads.requires κs) (operations.kb_sos.Reads.ensures κs) (number2, (under2, (number1, (under1, (grid, tt)))))
        (sos_came (loco number2) (ticket under2) (loco number1) (ticket under1) grid)
    unfolding answered bytes_left
    kb_sos number2 under2 number1 under1 grid = (refl, refl)

    pub kb_step_back : (k : ℕ)
        → Says w before after r (operations.kb_step_back.Reads.requires κs) (operations.kb_step_back.Reads.ensures κs) (k, tt) (step_back_came k)
    unfolding answered bytes_left
    kb_step_back k = (refl, refl)

  -- the flags are lent beside the session, at a lifetime of their own
  pub kb_flags : (κs : Lfts 2) (number under : ℕ) (bits : Bor (List ℕ))
      → Says w before after r (operations.kb_flags.Reads.requires κs) (operations.kb_flags.Reads.ensures κs) (number, (under, (bits, tt)))
      (deed_came number under (flags bits.now))
  unfolding answered bytes_left
  kb_flags κs number under bits = (refl, refl)
