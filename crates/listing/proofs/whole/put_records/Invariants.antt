-- `listing::whole::put_records` meets its contract, and ends: the records that a recording can still have fall.
use mathlib.Core.Bool.{false}
use mathlib.Core.Path.{◌≡◌}
use Prim.Native.Nat.{◌+◌, ◌-◌}
use lib.ListN.{length}
use Rattle.records.specs.Form.{most_records}
use Rattle.listing.specs.Listing.{listed_from}
use Rattle.listing.proofs.WholeLaws.{Reached}
use Rattle.listing.proofs.whole.put_records.Given as goal

abbrev pub invariant-loop-at : goal.invariant-loop-at
invariant-loop-at l =
    Reached (listed_from l.initial.session l.recording 0 0) l.recording l.initial.output l.from l.session l.output l.written l.at l.lines l.accepted false
    × (length l.session ≡ length l.initial.session) × (length l.output ≡ length l.initial.output)

abbrev pub decreases-loop-at : goal.decreases-loop-at
decreases-loop-at l = most_records + 1 - l.lines
