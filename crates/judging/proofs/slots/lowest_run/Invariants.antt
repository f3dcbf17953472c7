-- `judging::slots::lowest_run` meets its contract: the starts below were passed, and what is left of the run is as free as all of it.
use Prim.Native.Nat.{suc, ◌-◌, ◌≤◌}
use Rattle.kinds.specs.Kinds.{last_slot}
use mathlib.Core.Path.{◌≡◌}
use Rattle.store.specs.Stands.{book_of}
use Rattle.rules.specs.Slots.{is_run}
use Rattle.judging.proofs.SlotLaws.{Passed}
use Rattle.judging.proofs.slots.lowest_run.Given as goal

abbrev pub invariant-starts : goal.invariant-starts
invariant-starts l = (1 ≤ l.start) × (l.start ≤ suc last_slot) × Passed (book_of l.s) l.n l.start

abbrev pub decreases-starts : goal.decreases-starts
decreases-starts l = suc last_slot - l.start

abbrev pub invariant-loop-slot : goal.invariant-loop-slot
invariant-loop-slot l = (l.start ≡ l.initial.start) × (is_run (book_of l.s) l.start l.n ≡ is_run (book_of l.s) l.slot (l.end - l.slot))
