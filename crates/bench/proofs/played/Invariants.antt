-- `bench::played` meets its contract, and ends: the records that a recording can still have fall.
use mathlib.Core.Path.{◌≡◌}
use lib.ListN.{length}
use Rattle.bench.specs.Playing.{bytes}
use Rattle.bench.proofs.PlayLaws.{Going, can_have}
use Rattle.bench.proofs.played.Given as goal

abbrev pub invariant-loop-reader : goal.invariant-loop-reader
invariant-loop-reader g l =
    Going (bytes l.initial.session l.initial.input l.initial.output) (bytes l.session l.input l.output) l.play × (length l.session ≡ length l.initial.session)
    × (length l.input ≡ length l.initial.input) × (length l.output ≡ length l.initial.output)

abbrev pub decreases-loop-reader : goal.decreases-loop-reader
decreases-loop-reader g l = can_have l.play
