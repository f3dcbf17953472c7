-- `gate_files::files::move_all` meets its contract, and ends: the sub-packets that a file can still have fall.
use mathlib.Core.Path.{◌≡◌}
use lib.ListN.{length}
use Rattle.gate_files.proofs.TurnLaws.{Going, can_have}
use Rattle.gate_files.proofs.files.move_all.Given as goal

abbrev pub invariant-loop-from : goal.invariant-loop-from
invariant-loop-from g l = Going l.from l.initial.input l.input l.file × (length l.input ≡ length l.initial.input)

abbrev pub decreases-loop-from : goal.decreases-loop-from
decreases-loop-from g l = can_have l.file
