-- `register::search` meets its contract.
use mathlib.Core.Path.{◌≡◌}
use Prim.Native.Nat.{◌-◌}
use Rattle.kinds.specs.Found.{first}
use Rattle.trains.specs.Sought.{row_count}
use Rattle.register.specs.Register.{row_holds, searched}
use Rattle.register.proofs.search.Given as goal

abbrev pub invariant-loop-i : goal.invariant-loop-i
invariant-loop-i l = searched l.register l.at l.loco l.asked ≡ first (row_holds l.register l.at l.loco l.asked) l.i (row_count - l.i)
