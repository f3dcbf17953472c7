-- `fields::search::first_set` meets its contract. The invariant: what is found in the bits left is what is found in all.
use Prim.Native.Nat.{◌-◌}
use mathlib.Core.Path.{◌≡◌}
use Rattle.fields.specs.FirstSet.{first_set}
use Rattle.fields.proofs.search.first_set.Given as goal

abbrev pub invariant-loop-p : goal.invariant-loop-p
invariant-loop-p l = first_set l.s l.p (l.end - l.p) ≡ first_set l.s l.at (l.end - l.at)
