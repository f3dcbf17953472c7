-- `raising::judge` meets its contract.
use borrow.Author.Tests.{eq-eqb, ne_eqb}
use Rattle.trains.specs.Orders.{has_place}
use Rattle.rules.specs.Refusals.{number_of}
use Rattle.rules.specs.Ruling.{when}
use Rattle.raising.proofs.judge.Goals as goal

pub returns-then-l2-l1 : goal.returns-then-l2-l1
unfolding when number_of
returns-then-l2-l1 c = let a = c.args in simp (eq-eqb _ _ c.if-l2-l1.true)

pub returns-then-not-is_grid : goal.returns-then-not-is_grid
unfolding when number_of
returns-then-not-is_grid c = let a = c.args in simp (ne_eqb _ _ c.if-l2-l1.false, ← c.is_grid.ensures, c.if-not-is_grid.true)

pub returns-then-class_of : goal.returns-then-class_of
unfolding when number_of
returns-then-class_of c = let a = c.args in simp (ne_eqb _ _ c.if-l2-l1.false, ← c.is_grid.ensures, c.if-not-is_grid.false, ← c.class_of.ensures, ← c.class_of-2.ensures, c.if-class_of.true)

pub returns-then-cell-eq-NA : goal.returns-then-cell-eq-NA
unfolding when number_of
returns-then-cell-eq-NA c = let a = c.args in simp (ne_eqb _ _ c.if-l2-l1.false, ← c.is_grid.ensures, c.if-not-is_grid.false, ← c.class_of.ensures, ← c.class_of-2.ensures, c.if-class_of.false, eq-eqb _ _ c.if-cell-eq-NA.true)

pub returns-then-lacks_position : goal.returns-then-lacks_position
unfolding when number_of
returns-then-lacks_position c = let a = c.args in simp (ne_eqb _ _ c.if-l2-l1.false, ← c.is_grid.ensures, c.if-not-is_grid.false, ← c.class_of.ensures, ← c.class_of-2.ensures, c.if-class_of.false, ne_eqb _ _ c.if-cell-eq-NA.false, ← c.lacks_position.ensures (has_place a.l2.train a.l1.train.ticket), ← c.lacks_position-2.ensures (has_place a.l1.train a.l2.train.ticket), c.if-lacks_position.true)

pub returns-then-lacks_place : goal.returns-then-lacks_place
unfolding when number_of
returns-then-lacks_place c = let a = c.args in simp (ne_eqb _ _ c.if-l2-l1.false, ← c.is_grid.ensures, c.if-not-is_grid.false, ← c.class_of.ensures, ← c.class_of-2.ensures, c.if-class_of.false, ne_eqb _ _ c.if-cell-eq-NA.false, ← c.lacks_position.ensures (has_place a.l2.train a.l1.train.ticket), ← c.lacks_position-2.ensures (has_place a.l1.train a.l2.train.ticket), c.if-lacks_position.false, ← c.lacks_place.ensures, ← c.lacks_place-2.ensures, c.if-lacks_place.true)

pub returns : goal.returns
unfolding when
returns c = let a = c.args in simp (ne_eqb _ _ c.if-l2-l1.false, ← c.is_grid.ensures, c.if-not-is_grid.false, ← c.class_of.ensures, ← c.class_of-2.ensures, c.if-class_of.false, ne_eqb _ _ c.if-cell-eq-NA.false, ← c.lacks_position.ensures (has_place a.l2.train a.l1.train.ticket), ← c.lacks_position-2.ensures (has_place a.l1.train a.l2.train.ticket), c.if-lacks_position.false, ← c.lacks_place.ensures, ← c.lacks_place-2.ensures, c.if-lacks_place.false)
