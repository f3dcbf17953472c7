-- DEEDS, the operations on one train that is named: flags, position, authority, danger location, an order cleared. A deed takes a train and gives
-- the answer and the train afterwards, and sees nothing else.
use mathlib.Core.{Bool.Bool, Bool.cond, List.List}
use Rattle.std.specs.Prelude.{ℕ, eqb, Option, None, Some}
use Rattle.modes.specs.{Next.next_step, declared.Step.Step}
use Rattle.kinds.specs.{Ranges.is_position, Ranges.is_none_or_location, Ranges.location_from, declared.Ticket.Ticket}
use Rattle.trains.specs.{Authority.end_of, Orders.has_order, Orders.order_cleared}
use Rattle.trains.specs.{Changes.with_position, Changes.with_authority, Changes.with_danger, Changes.with_mode, declared.record.Train.Train}
use Rattle.rules.specs.{Effect.row_only, Named.name_ground, Named.name_answer, Refusals.bad_position, Refusals.bad_location, Refusals.no_such_order}
use Rattle.rules.specs.{Ruling.accepted_with, Ruling.refused_with, Ruling.ruling, Named.Named}
use Rattle.rules.specs.{declared.ruling.Answer.Answer, Ruling.Ruling, declared.deeds.Deed.Deed as Said}
use Rattle.rules.specs.declared.deeds.Deed.TheVariants.{Flags, Position, Authority, Danger, Clear}

pub data Deed : Type 0 where
  flags : List ℕ → Deed  -- 91 condition flags
  position : ℕ → ℕ → Deed  -- front and rear
  authority : ℕ → Deed  -- the granted end, or `none`
  danger : ℕ → Deed  -- the danger location, or `none`
  clear : Ticket → Deed  -- the order under another train's ticket cleared

-- the deed that the code's enum says, with the flags that are lent beside it
abbrev pub meant : Said → List ℕ → Deed
meant Flags fs = flags fs
meant (Position front rear) fs = position front rear
meant (Authority end) fs = authority end
meant (Danger location) fs = danger location
meant (Clear other) fs = clear other

-- the answer for a train's end: 1 and the effective end, or zeros for none
unfoldable pub end_answer : Option ℕ → Answer
end_answer None = accepted_with 0 0 0
end_answer (Some end) = accepted_with 1 end 0

-- the answer, and the train afterwards
pub record Changed : Type 0 where
  pub answer : Answer
  pub train : Train

-- an answer with a train
abbrev pub changed_with : Answer → Train → Changed
changed_with answer t = record { answer = answer; train = t }

-- where the test holds, the train afterwards, with its effective end for an answer; else refused on a ground, and the train as it was
unfoldable pub changed_if : Bool → ℕ → Train → Train → Changed
changed_if test reason before after = cond test (changed_with (end_answer (end_of after)) after) (changed_with (refused_with reason) before)

-- the train after a mode step; a step that stays, which has priority 0, changes nothing
unfoldable pub step_taken : Train → Step → Train
step_taken t s = cond (eqb s.priority 0) t (with_mode t s.mode)

-- a mode step, refused with the step's own number
unfoldable pub mode_stepped : Train → Step → Changed
mode_stepped t s =
    cond (eqb s.answer 0) (changed_with (accepted_with s.mode s.priority s.tie) (step_taken t s)) (changed_with (refused_with s.answer) t)

-- WHAT EACH DEED DOES to a train
unfoldable pub done : Deed → Train → Changed
done (flags fs) t = mode_stepped t (next_step t.mode fs)
done (position front rear) t = changed_if (is_position front rear) bad_position t (with_position t front rear)
done (authority end) t = changed_if (is_none_or_location end) bad_location t (with_authority t (location_from end))
done (danger location) t = changed_if (is_none_or_location location) bad_location t (with_danger t (location_from location))
done (clear other) t = changed_if (has_order t other) no_such_order t (order_cleared t other)

-- the grounds on which a deed is refused: those of the name, then its own
abbrev pub deed_ground : Named → Changed → ℕ
deed_ground n changed = name_ground n changed.answer.answer

-- a deed done: one row is changed
abbrev pub deed_done : Ticket → Named → Changed → Ruling
deed_done counter n changed = ruling changed.answer counter (row_only n.row changed.train)

-- THE EFFECTIVE END of a named train, asked: nothing is changed
unfoldable pub end_asked : Named → Answer
end_asked n = name_answer n.loco n.live (end_answer (end_of n.train))
