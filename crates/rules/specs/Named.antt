-- The train that a loco and a ticket name together.
use Rattle.std.specs.Prelude.{Bool, true, false, cond, ℕ, eqb, Option, None, Some}
use Rattle.kinds.specs.{Kinds.loco_in_range, declared.Loco.Loco, declared.Ticket.Ticket}
use Rattle.trains.specs.{Record.blank_train, Sought.row_count, declared.sought.Sought.TheVariants.Pair, declared.record.Train.Train}
use Rattle.rules.specs.{Refusals.bad_loco, Refusals.no_live_train, Ruling.refused_with, Ruling.unless, View.View, View.row_in, View.find_in}
use Rattle.rules.specs.{declared.ruling.Answer.Answer}

-- a loco that was named, and whether a live train has it and the ticket: then its row and record, else no row and a blank record
pub record Named : Type 0 where
  pub loco : Loco
  pub live : Bool
  pub row : ℕ
  pub train : Train

-- nobody is named
abbrev pub nobody : Loco → Named
nobody loco = record { loco = loco; live = false; row = row_count; train = blank_train }

-- the train in the row that was found
unfoldable pub in_row : Loco → View → Option ℕ → Named
in_row loco v None = nobody loco
in_row loco v (Some row) = record { loco = loco; live = true; row = row; train = row_in v row }

-- the live train with this loco and this ticket, and its row
unfoldable pub named_in : Loco → Ticket → View → Named
named_in loco ticket v = in_row loco v (find_in v (Pair loco ticket))

-- the grounds on which a name is refused, a loco and whether it names a live train, and those that follow
abbrev pub ground_of_name : Loco → Bool → ℕ → ℕ
ground_of_name loco live next = unless (loco_in_range loco) bad_loco (unless live no_live_train next)

-- the same of a train that was looked for
unfoldable pub name_ground : Named → ℕ → ℕ
name_ground n next = ground_of_name n.loco n.live next

-- the answer where a train is named: a refusal of the name, or else the answer itself
abbrev pub name_answer : Loco → Bool → Answer → Answer
name_answer loco live answer = cond (eqb (ground_of_name loco live 0) 0) answer (refused_with (ground_of_name loco live 0))
