-- `turnout_reading::bits_of` meets its contract. The invariant: where the turnouts left end, all end.
use Prim.Native.Nat.{◌+◌, ◌-◌, ◌*◌, ◌≤◌}
use mathlib.Core.Path.{◌≡◌}
use Rattle.profiles.specs.Places.{entry_at}
use Rattle.turnouts.specs.Turnouts.{turnout_profile}
use Rattle.turnout_reading.proofs.bits_of.Given as goal

abbrev pub invariant-loop-i : goal.invariant-loop-i
invariant-loop-i l = (l.p ≤ 13 + 32 * l.i) × (entry_at turnout_profile l.s l.p (l.n - l.i) ≡ entry_at turnout_profile l.s 13 l.n)
