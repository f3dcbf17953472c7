-- What follows the mark leaves it as it is.
use mathlib.Core.Path.{◌≡◌, ap}
use mathlib.Core.List.{List}
use Prim.Native.Nat.{ℕ, ◌≤◌}
use lib.Dec.{eqb}
use lib.ListN.{take}
use Rattle.numbers.proofs.FrontLaws.{number-front}
use Rattle.mark_bytes.specs.Mark.{mark, is_marked}

pub marked-front : (s : List ℕ) (m : ℕ) → 2 ≤ m → is_marked (take m s) ≡ is_marked s
unfolding is_marked
marked-front s m h = ap (λ (n : ℕ). eqb n mark) (number-front 2 s 0 m h)
