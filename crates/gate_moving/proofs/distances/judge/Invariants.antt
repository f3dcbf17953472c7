-- `gate_moving::distances::judge` meets its contract. The invariant: the refusal of the gates left is that of all.
use Prim.Native.Nat.{◌+◌, ◌-◌, ◌*◌, ◌≤◌}
use mathlib.Core.Path.{◌≡◌}
use lib.ListN.{length}
use lib.Seq.{slice}
use Rattle.gate_reading.specs.Steps.{spread}
use Rattle.gate_moving.specs.Moving.{distances_refusal}
use Rattle.gate_moving.proofs.distances.judge.Given as goal

abbrev pub invariant-loop-gate : goal.invariant-loop-gate
invariant-loop-gate l =
    (l.p ≤ 16 + 35 * l.gate-index)
    × (distances_refusal l.from l.p (spread (slice l.gate-index (length l.kept) l.kept)) (length l.kept - l.gate-index) ≡ distances_refusal l.from 16 (spread l.kept) (length l.kept))
