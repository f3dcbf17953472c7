-- `turnout_reading::fill_turnouts` meets its contract. The invariant: what is left to store, stored, is all the turnouts.
use Prim.Native.Nat.{ℕ, ◌+◌, ◌-◌, ◌*◌, ◌≤◌}
use mathlib.Core.Path.{◌≡◌}
use mathlib.Core.List.{List}
use lib.ListN.{length}
use lib.Seq.{sets}
use Rattle.numbers.specs.Pieces.{unpack}
use Rattle.profiles.specs.Profiles.{widths_at}
use Rattle.turnouts.specs.Turnouts.{turnout_profile, turnout_bytes}
use Rattle.turnout_reading.proofs.fill_turnouts.Given as goal

-- the bytes of m turnouts from bit p on
abbrev pub left : List ℕ → ℕ → ℕ → List ℕ
left s p m = unpack s p (widths_at turnout_profile s p m)

abbrev pub invariant-loop-i : goal.invariant-loop-i
invariant-loop-i l =
    (l.p ≤ 13 + 32 * l.i) × (length l.out ≡ length l.initial.out) × (sets l.out (turnout_bytes * l.i) (left l.s l.p (l.n - l.i)) ≡ sets l.initial.out 0 (left l.s 13 l.n))
