-- What is known of a turn.
use mathlib.Core.Bool.{Bool, true, false, cond}
use Prim.Native.Nat.{◌≤◌}
use native.Mathlib.Omega.{arith}
use lib.Dec.{eqb}
use Rattle.records.specs.declared.told.Ran.{Ran}
use Rattle.turns.specs.Turns.{one_if_accepted}

-- a record counts as one at most
pub one_most : (r : Ran) → one_if_accepted r ≤ 1
unfolding one_if_accepted
one_most r = of (eqb r.answer 0)
  where
    of : (b : Bool) → cond b 1 0 ≤ 1
    of true = omega arith
    of false = omega arith
