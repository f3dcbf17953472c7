-- What the contract of a call says.
use mathlib.Core.Path.{◌≡◌}
use mathlib.Core.List.{List}
use Prim.Native.Nat.{ℕ}
use Rattle.replay.specs.Demand3.{Call}
use Rattle.rules.specs.Rules.{Op}
use Rattle.rules.specs.declared.ruling.Answer.{Answer}
use Rattle.standing.specs.Standing.{answered, bytes_left}

module _ (bs : List ℕ) where
  -- its answer, and the bytes after it
  abbrev pub Called : Call Op → Answer → List ℕ → Type 0
  Called c a after = (a ≡ answered bs c) × (after ≡ bytes_left bs c)
