-- What the rules say of the lent bytes: of the counter and the view that they stand for, whatever they are.
use mathlib.Core.{List.List, Path.◌≡◌}
use Rattle.std.specs.Prelude.{ℕ}
use Rattle.kinds.specs.{declared.Loco.Loco, declared.Ticket.Ticket}
use Rattle.rules.specs.{Deeds.end_asked, Named.named_in, Registering.ticket_for, Rules.Op, Rules.rule, declared.ruling.Answer.Answer}
use Rattle.rules.specs.{Ruling.Ruling, declared.settings.Settings.Settings}
use Rattle.store.specs.Stands.{view_of, counter_of}

-- what the rules say of an operation on the lent bytes; a request would take the next ticket
unfoldable pub judged : Settings → List ℕ → Op → Ruling
judged s bs o = rule s o (counter_of bs) (ticket_for (counter_of bs)) (view_of bs)

-- a ruling on an operation that looks at no settings: under any, it is what the rules say
abbrev pub JudgedAlike : Ruling → List ℕ → Op → Type 0
JudgedAlike r bs o = (s : Settings) → r ≡ judged s bs o

-- the effective end of a named train, as an answer
unfoldable pub end_judged : List ℕ → Loco → Ticket → Answer
end_judged bs loco ticket = end_asked (named_in loco ticket (view_of bs))
