-- `trace_files::files::check_all` meets its contract, and ends: the entries that a file can still have fall.
use mathlib.Core.Path.{◌≡◌}
use lib.ListN.{length}
use Rattle.trace_files.proofs.TurnLaws.{Going, can_have}
use Rattle.trace_files.proofs.files.check_all.Given as goal

abbrev pub invariant-loop-reader : goal.invariant-loop-reader
invariant-loop-reader g l = Going l.initial.input l.input l.file × (length l.input ≡ length l.initial.input)

abbrev pub decreases-loop-reader : goal.decreases-loop-reader
decreases-loop-reader g l = can_have l.file
