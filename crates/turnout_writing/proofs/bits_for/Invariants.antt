-- `turnout_writing::bits_for` meets its contract. The invariant: with the bits of the turnouts left they are those of all.
use Prim.Native.Nat.{ℕ, ◌+◌, ◌-◌, ◌*◌, ◌≤◌}
use mathlib.Core.Path.{◌≡◌}
use mathlib.Core.List.{List}
use lib.ListN.{drop}
use Rattle.numbers.specs.Pieces.{total}
use Rattle.profiles.specs.Profiles.{widths_of}
use Rattle.turnouts.specs.Turnouts.{turnout_profile, turnout_bytes}
use Rattle.turnout_writing.proofs.bits_for.Given as goal

abbrev pub left : List ℕ → ℕ → ℕ
left list m = total (widths_of turnout_profile list m)

abbrev pub invariant-loop-i : goal.invariant-loop-i
invariant-loop-i l = (l.bits ≤ 13 + 32 * l.i) × (l.bits + left (drop (turnout_bytes * l.i) l.list) (l.n - l.i) ≡ 13 + left l.list l.n)
