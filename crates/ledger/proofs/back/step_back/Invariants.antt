-- `ledger::back::step_back` meets its contract. The invariant: what is left to undo, undone, is all of it.
use mathlib.Core.Path.{◌≡◌}
use Prim.Native.Nat.{◌-◌}
use Rattle.ledger.specs.Back.{stepped_by}
use Rattle.ledger.proofs.back.step_back.Given as goal

abbrev pub invariant-loop : goal.invariant-loop
invariant-loop l = stepped_by (l.k - l.counter) l.s ≡ stepped_by l.k l.initial.s
