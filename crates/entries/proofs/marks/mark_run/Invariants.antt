-- `entries::marks::mark_run` meets its contract. The invariant: what is left to mark, marked, is all of it.
use mathlib.Core.Path.{◌≡◌}
use Prim.Native.Nat.{◌+◌, ◌-◌}
use Rattle.entries.specs.Marks.{slots_put}
use Rattle.entries.proofs.marks.mark_run.Given as goal

abbrev pub invariant-loop-slot : goal.invariant-loop-slot
invariant-loop-slot l =
    slots_put l.s l.slot (l.start + l.fn.run.slots - l.slot) l.mark ≡ slots_put l.initial.s l.start l.fn.run.slots l.mark
