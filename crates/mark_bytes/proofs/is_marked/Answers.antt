-- `mark_bytes::is_marked` meets its contract.
use mathlib.Core.Path.{ap}
use Prim.Native.Nat.{ℕ}
use lib.Dec.{eqb}
use Rattle.mark_bytes.specs.Mark.{mark, is_marked}
use Rattle.mark_bytes.proofs.is_marked.Goals as goal

pub returns : goal.returns
unfolding is_marked
returns c = ap (λ (n : ℕ). eqb n mark) c.half_at.ensures
