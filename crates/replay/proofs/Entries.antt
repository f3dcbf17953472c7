-- The entries in the log are as many as the entry rule says, after every call.
use Prim.Native.Nat.{ℕ, ◌≤◌}
use native.Mathlib.Omega.{arith}
use mathlib.Core.Path.{◌≡◌, refl}
use mathlib.Core.List.{◌∷◌}
use lib.ListN.{length, length-take, length-drop}
use Rattle.replay.specs.Rules.{Rules, ticket_due}
use Rattle.replay.specs.Demand3.{Call, Answer, CameTo, entry, step_back, nothing, State, depth, came_to, keep}
use Rattle.replay.specs.Machine.{acted, undone}
use Rattle.replay.proofs.Ways.{Way, stays, acts, goes, refused-nothing}

pub keep-few : {Op Reply : Type 0} (x : CameTo Op Reply) (n : ℕ) → n ≤ depth → keep x n ≤ depth
unfolding keep
keep-few (entry x) n l = omega arith
keep-few (step_back k) n l = omega arith
keep-few nothing n l = l

module _ (R : Rules) where
  open R use {View, Op, Reply, Entry, save}

  pub kept_way : (s : State View Entry) (c : Call Op) (y : State View Entry × Answer Reply) → Way R s c y
      → length y.0.log ≡ keep (came_to c y.1) (length s.log)
  unfolding acted undone came_to keep
  kept_way s c y (stays n) = rw (refused-nothing c n) refl
  kept_way s c y (acts o r w e) = length-take depth (save o (ticket_due R o s.counter) s.view ∷ s.log)
  kept_way s c y (goes k l) = length-drop k s.log
