-- THE RULES: the operations with their arguments, the grounds on which each is refused, and what it does. A request takes its ticket as an argument,
-- so a replay that keeps each grant's ticket is the same rule.
use Rattle.std.specs.Prelude.{Bool, true, false, ℕ}
use Rattle.kinds.specs.{declared.Loco.Loco, declared.Ticket.Ticket}
use Rattle.rules.specs.{Named.named_in, Named.name_ground, Raising.sos_ground, Raising.raised}
use Rattle.rules.specs.{Registering.request_ground, Registering.requested, Registering.released, Ruling.ruled, View.View}
use Rattle.rules.specs.{Deeds.Deed, Deeds.done, Deeds.deed_ground, Deeds.deed_done, Ruling.Ruling}
use Rattle.rules.specs.declared.settings.Settings.{Settings}

-- the operations, step-back apart; an SOS names L2 first
pub data Op : Type 0 where
  request : Loco → ℕ → Op
  release : Loco → Ticket → Op
  on : Loco → Ticket → Deed → Op
  sos : Loco → Ticket → Loco → Ticket → ℕ → Op

-- only a request takes a ticket
unfoldable pub grants : Op → Bool
grants (request loco bytes) = true
grants (release loco ticket) = false
grants (on loco ticket deed) = false
grants (sos loco2 ticket2 loco1 ticket1 grid) = false

-- THE GROUND on which an operation is refused where the counter stands here; 0 for none
unfoldable pub ground_of : Settings → Op → Ticket → View → ℕ
ground_of s (request loco bytes) counter v = request_ground s.carries loco bytes counter v
ground_of s (release loco ticket) counter v = name_ground (named_in loco ticket v) 0
ground_of s (on loco ticket deed) counter v = deed_ground (named_in loco ticket v) (done deed (named_in loco ticket v).train)
ground_of s (sos loco2 ticket2 loco1 ticket1 grid) counter v = sos_ground s.margin grid (named_in loco2 ticket2 v) (named_in loco1 ticket1 v)

-- WHAT AN OPERATION DOES where there is none, under a ticket where it is a request
unfoldable pub done_by : Settings → Op → Ticket → Ticket → View → Ruling
done_by s (request loco bytes) counter t v = requested s.carries loco bytes t v
done_by s (release loco ticket) counter t v = released counter (named_in loco ticket v)
done_by s (on loco ticket deed) counter t v = deed_done counter (named_in loco ticket v) (done deed (named_in loco ticket v).train)
done_by s (sos loco2 ticket2 loco1 ticket1 grid) counter t v = raised s.margin grid counter (named_in loco2 ticket2 v) (named_in loco1 ticket1 v)

-- THE RULE: what is said of an operation on a view, where the counter stands here
unfoldable pub rule : Settings → Op → Ticket → Ticket → View → Ruling
rule s o counter t v = ruled counter (ground_of s o counter v) (done_by s o counter t v)
