-- `acting::act` meets its contract.
use Rattle.rules.specs.Refusals.{number_of}
use Rattle.rules.specs.Deeds.{done}
use Rattle.acting.proofs.act.Goals as goal

pub returns-in-Flags : goal.returns-in-Flags
unfolding done
returns-in-Flags c = simp (c.step.ensures, c.in-Flags.is)

pub returns-in-Position : goal.returns-in-Position
unfolding done number_of
returns-in-Position c = simp (c.given.ensures, c.is_position.ensures, c.with_position.ensures, c.in-Position.is)

pub returns-in-Authority : goal.returns-in-Authority
unfolding done number_of
returns-in-Authority c =
    simp (c.given-in-Authority.ensures, c.is_none_or_location.ensures, c.with_authority.ensures, c.location_from.ensures, c.in-Authority.is)

pub returns-in-Danger : goal.returns-in-Danger
unfolding done number_of
returns-in-Danger c =
    simp (c.given-in-Danger.ensures, c.is_none_or_location-in-Danger.ensures, c.with_danger.ensures, c.location_from-in-Danger.ensures, c.in-Danger.is)

pub returns-in-Clear : goal.returns-in-Clear
unfolding done number_of
returns-in-Clear c = simp (c.given-in-Clear.ensures, c.has_order.ensures, c.order_cleared.ensures, c.in-Clear.is)
