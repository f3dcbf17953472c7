-- What the results of code say: an Option or a Result as the name, the answer, the change and the ruling of the rules.
use Rattle.std.specs.Prelude.{cond, ◌&&◌, ℕ, true, Option, None, Some, ok_or}
use Rattle.std.specs.declared.result.Result.{Result}
use Rattle.std.specs.declared.result.Result.TheVariants.{Ok, Err}
use Rattle.kinds.specs.{Kinds.no_loco, Kinds.loco_in_range, declared.Loco.Loco, declared.Ticket.Ticket}
use Rattle.trains.specs.declared.record.Train.{Train}
use Rattle.sos.specs.declared.shares.Share.{Share}
use Rattle.rules.specs.Raising.{Side, side_of}
use Rattle.rules.specs.{Named.Named, Named.nobody, Deeds.Changed, Deeds.changed_with, Ruling.Ruling, Ruling.ruling, Ruling.refused, Ruling.accepted_with}
use Rattle.rules.specs.{Ruling.refused_with, Refusals.number_of, declared.ruling.Answer.Answer}
use Rattle.rules.specs.declared.refusals.{Refusal.Refusal, Refusal.TheVariants.BadLoco, Refusal.TheVariants.NoLiveTrain}
use Rattle.rules.specs.{declared.ruling.Told.Told, declared.ruling.Ruling.Ruling as RulingSaid, declared.deeds.Changed.Changed as ChangedSaid}
use Rattle.rules.specs.{declared.named.Live.Live, declared.named.Named.Named as NamedSaid}

-- a live train that was found, or none
abbrev pub name_of : Loco → Option Live → Named
name_of loco None = nobody loco
name_of loco (Some l) = record { loco = loco; live = true; row = l.row; train = l.train }

-- a name that was looked for
abbrev pub named_meant : NamedSaid → Named
named_meant n = name_of n.loco n.live

-- the live train of a name, or the ground on which the name is refused
unfoldable pub live_train : NamedSaid → Result Live Refusal
live_train n = cond (loco_in_range n.loco) (ok_or n.live NoLiveTrain) (Err BadLoco)

-- both trains of an SOS, or the ground on which a name is refused
abbrev pub pair_live : Option Live → Option Live → Result (Live × Live) Refusal
pair_live (Some l2) (Some l1) = Ok (l2, l1)
pair_live (Some l2) None = Err NoLiveTrain
pair_live None other = Err NoLiveTrain

unfoldable pub both_live : NamedSaid → NamedSaid → Result (Live × Live) Refusal
both_live l2 l1 = cond (loco_in_range l2.loco && loco_in_range l1.loco) (pair_live l2.live l1.live) (Err BadLoco)

-- three numbers that accept
abbrev pub accepted_by : Told → Answer
accepted_by n = accepted_with n.first n.second n.third

-- three numbers, or a ground of refusal
abbrev pub answer_meant : Result Told Refusal → Answer
answer_meant (Ok n) = accepted_by n
answer_meant (Err e) = refused_with (number_of e)

-- a train changed; refused, it is the train as it was
abbrev pub changed_meant : Train → Result ChangedSaid Refusal → Changed
changed_meant before (Ok c) = changed_with (accepted_by c.told) c.train
changed_meant before (Err e) = changed_with (refused_with (number_of e)) before

-- what an operation does that is accepted
abbrev pub ruling_by : RulingSaid → Ruling
ruling_by r = ruling (accepted_by r.told) r.counter r.effect

-- what an operation does, or its refusal, which leaves the counter
abbrev pub ruling_meant : Ticket → Result RulingSaid Refusal → Ruling
ruling_meant counter (Ok r) = ruling_by r
ruling_meant counter (Err e) = refused counter (number_of e)

-- no refusal is no ground
abbrev pub ground_meant : {T : Type 0} → Result T Refusal → ℕ
ground_meant (Ok x) = 0
ground_meant (Err e) = number_of e

-- a live train as a side of an SOS
abbrev pub side_meant : Live → Share → Ticket → Side
side_meant l share other = side_of (name_of no_loco (Some l)) share other
