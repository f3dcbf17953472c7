-- `gate_reading::load_gates` meets its contract. The invariant: what is left to keep, kept, is all the gates.
use Prim.Native.Nat.{ℕ, ◌+◌, ◌-◌, ◌*◌, ◌≤◌}
use mathlib.Core.Path.{◌≡◌}
use mathlib.Core.List.{List, [], ◌∷◌}
use lib.ListN.{length}
use lib.Seq.{sets}
use Rattle.numbers.specs.Pieces.{times, unpack}
use Rattle.gate_reading.proofs.load_gates.Given as goal

-- m gates of so many bits from bit p on
abbrev pub left : ℕ → List ℕ → ℕ → ℕ → List ℕ
left bits s p m = unpack s p (times m (bits ∷ []))

abbrev pub invariant-loop-gate : goal.invariant-loop-gate
invariant-loop-gate l =
    (l.p ≤ 16 + 35 * l.gate-index)
    × (sets l.kept l.gate-index (left l.bits l.s l.p (length l.kept - l.gate-index)) ≡ sets l.initial.kept 0 (left l.bits l.s 16 (length l.initial.kept)))
