-- `gate_reading::fill_gates` meets its contract. The invariant: what is left to store, stored, is all the gates.
use Prim.Native.Nat.{◌*◌}
use mathlib.Core.Path.{◌≡◌}
use lib.ListN.{length}
use lib.Seq.{sets, slice}
use Rattle.gates.specs.Gates.{gate_bytes}
use Rattle.gate_reading.specs.Steps.{spread}
use Rattle.gate_reading.proofs.fill_gates.Given as goal

abbrev pub invariant-loop-i : goal.invariant-loop-i
invariant-loop-i l = sets l.out (gate_bytes * l.i) (spread (slice l.i (length l.kept) l.kept)) ≡ sets l.initial.out 0 (spread l.kept)
