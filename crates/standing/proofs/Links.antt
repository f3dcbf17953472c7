-- NO GAP BETWEEN THE CONTRACTS AND THE THEOREM. For each operation and for `start`: the contract that the function was proved to meet asks
-- nothing, and what it promises of the answer and of the lent bytes IS what the theorem says that the call did. Each is `refl`: one proposition, not two.
use mathlib.Core.Path.{◌≡◌, refl, ap}
use mathlib.Core.List.{List}
use Prim.Native.Nat.{ℕ}
use base.Logic.{sep, emp}
use contract.Lifetimes.{Lfts}
use contract.Monad.{fact}
use borrow.Fn.World.{World, Pr}
use denote.Ref.{Bor}
use denote.MutBor.{MutBor}
use Rattle.kinds.specs.declared.Loco.{Loco}
use Rattle.kinds.specs.declared.Ticket.{Ticket}
use Rattle.replay.specs.Demand3.{Call}
use Rattle.rules.specs.Rules.{Op}
use Rattle.rules.specs.declared.deeds.Deed.{Deed}
use Rattle.rules.specs.declared.ruling.Answer.{Answer}
use Rattle.stepback.proofs.step_back.Reads as stepped
use Rattle.session.proofs.operations
use Rattle.standing.specs.Said.{said}
use Rattle.standing.specs.Standing.{answered, bytes_left, session}
use Rattle.standing.specs.Functions.{Came, came_of, request_came, release_came, on_came, sos_came, step_back_came, start_came}

-- what a call came to is what the theorem asks of the call
pub came_did : (bs : List ℕ) (c : Call Op) (r : Answer) (after : List ℕ) → r ≡ (came_of c bs).answer → after ≡ (came_of c bs).after
    → session.Did bs c (said c r) after
came_did bs c r after answer left = (ap (said c) answer, left)

-- a call in any world of the logic: the lent bytes before and after it, and its answer
module _ (w : World) (before after : MutBor (List ℕ)) (r : Answer) where
  -- the answer and the bytes after are these
  abbrev pub Done : Came → Pr w
  Done d = sep w.𝓤 (fact w.𝓤 (r ≡ d.answer)) (fact w.𝓤 (after.now ≡ d.after))

  -- a contract, with further arguments, asks nothing and promises these
  abbrev pub Says : {A : Type 0} → (MutBor (List ℕ) × A → Unit {0} → (v : World) → Pr v)
      → (MutBor (List ℕ) × A → Unit {0} → Answer → MutBor (List ℕ) × A → (v : World) → Pr v) → A → (List ℕ → Came) → Type 2
  Says requires ensures a came = (requires (before, a) tt w ≡ emp w.𝓤) × (ensures (before, a) tt r (after, a) w ≡ Done (came before.now))

  module _ (κs : Lfts 1) where
    pub request_says : (loco : Loco) (bytes : ℕ)
        → Says (operations.request.Reads.requires κs) (operations.request.Reads.ensures κs) (loco, (bytes, tt)) (request_came loco bytes)
    unfolding answered bytes_left
    request_says loco bytes = (refl, refl)

    pub release_says : (loco : Loco) (ticket : Ticket)
        → Says (operations.release.Reads.requires κs) (operations.release.Reads.ensures κs) (loco, (ticket, tt)) (release_came loco ticket)
    unfolding answered bytes_left
    release_says loco ticket = (refl, refl)

    pub sos_says : (loco2 : Loco) (ticket2 : Ticket) (loco1 : Loco) (ticket1 : Ticket) (grid : ℕ)
        → Says (operations.sos.Reads.requires κs) (operations.sos.Reads.ensures κs) (loco2, (ticket2, (loco1, (ticket1, (grid, tt))))) (sos_came loco2 ticket2 loco1 ticket1 grid)
    unfolding answered bytes_left
    sos_says loco2 ticket2 loco1 ticket1 grid = (refl, refl)

    pub step_back_says : (k : ℕ)
        → Says (stepped.requires κs) (stepped.ensures κs) (k, tt) (step_back_came k)
    unfolding answered bytes_left
    step_back_says k = (refl, refl)

    pub start_says : Says (operations.start.Reads.requires κs) (operations.start.Reads.ensures κs) tt start_came
    start_says = (refl, refl)

  -- the flags are lent beside the session, at a lifetime of their own
  pub on_says : (κs : Lfts 2) (loco : Loco) (ticket : Ticket) (deed : Deed) (flags : Bor (List ℕ))
      → Says (operations.on.Reads.requires κs) (operations.on.Reads.ensures κs) (loco, (ticket, (deed, (flags, tt)))) (on_came loco ticket deed flags.now)
  unfolding answered bytes_left
  on_says κs loco ticket deed flags = (refl, refl)
