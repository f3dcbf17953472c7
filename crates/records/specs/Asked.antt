-- The call that a record asks for, in code: its numbers by value, and the flags of a deed beside it.
use Rattle.std.specs.Prelude.{List, ℕ}
use Rattle.replay.specs.Demand3.{Call, op, back}
use Rattle.rules.specs.{Deeds.meant, Rules.Op, Rules.request, Rules.release, Rules.on, Rules.sos}
use Rattle.records.specs.declared.asked.Asked.{Asked}
use Rattle.records.specs.declared.asked.Asked.TheVariants.{Request, Release, On, Sos, StepBack}

-- the call that it stands for
abbrev pub meant_by : Asked → List ℕ → Call Op
meant_by (Request loco bytes) fs = op (request loco bytes)
meant_by (Release loco ticket) fs = op (release loco ticket)
meant_by (On loco ticket deed) fs = op (on loco ticket (meant deed fs))
meant_by (Sos loco2 ticket2 loco1 ticket1 grid) fs = op (sos loco2 ticket2 loco1 ticket1 grid)
meant_by (StepBack k) fs = back k
