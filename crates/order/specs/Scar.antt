-- What a pair of a loco and a ticket names, and what a release takes away: no other train, and no other train's slot.
use mathlib.Core.{Path.◌≡◌, Bool.true}
use Rattle.std.specs.Prelude.{ℕ}
use Rattle.kinds.specs.{Kinds.same_loco, Kinds.same_ticket, declared.Loco.Loco, declared.Ticket.Ticket}
use Rattle.trains.specs.{Record.blank_train, declared.record.Train.Train}
use Rattle.rules.specs.{Slots.slot_of, View.View, View.row_in, View.mark_of}
use Rattle.order.specs.Sound.{Live, InBook, Has}

-- a live train has this loco and this ticket
pub record Called (loco : Loco) (ticket : Ticket) (t : Train) : Type 0 where
  pub live : Live t
  pub by_loco : same_loco t.loco loco ≡ true
  pub by_ticket : same_ticket t.ticket ticket ≡ true

-- no row's train has them
abbrev pub NamesNone : Loco → Ticket → View → Type 0
NamesNone loco ticket v = (i : ℕ) → Called loco ticket (row_in v i) → ⊥

-- what a release of a loco and a ticket makes of a view
pub record Released (loco : Loco) (ticket : Ticket) (before after : View) : Type 0 where
  -- the row whose train had them
  pub row : ℕ
  pub had : Called loco ticket (row_in before row)
  -- is blank
  pub blank : row_in after row ≡ blank_train
  -- every other row is as it was
  pub others : (k : ℕ) → (k ≡ row → ⊥) → row_in after k ≡ row_in before k
  -- the train's slots are free
  pub freed : (slot : ℕ) → Has (row_in before row) slot → mark_of after.book (slot_of slot) ≡ 0
  -- and every other slot is as it was
  pub slots : (slot : ℕ) → InBook slot → (Has (row_in before row) slot → ⊥) → mark_of after.book (slot_of slot) ≡ mark_of before.book (slot_of slot)
