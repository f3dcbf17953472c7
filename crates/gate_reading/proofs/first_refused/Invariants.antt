-- `gate_reading::first_refused` meets its contract. The invariant: the refusal of the gates left is that of all.
use mathlib.Core.Path.{◌≡◌}
use lib.ListN.{length}
use Rattle.profiles.specs.Profiles.{rules_refusal}
use Rattle.gates.specs.Gates.{gate_profile_with}
use Rattle.gate_reading.specs.Steps.{spread, rules_from}
use Rattle.gate_reading.proofs.first_refused.Given as goal

abbrev pub invariant-loop-i : goal.invariant-loop-i
invariant-loop-i l = rules_from l.distance l.kept (length l.kept) l.i ≡ rules_refusal (gate_profile_with l.distance) 16 (spread l.kept) (length l.kept)
