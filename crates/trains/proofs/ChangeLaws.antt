-- What each change of a record leaves alone.
use Rattle.std.specs.Prelude.{Option}
use Prim.Native.Nat.{ℕ}
use mathlib.Core.List.{List}
use mathlib.Core.Path.{◌≡◌, refl}
use borrow.Author.Tests.{eq-eqb, ne_eqb}
use Rattle.transitions.specs.Names.{OV}
use Rattle.trains.specs.declared.record.Order.{Order}
use Rattle.trains.specs.declared.record.Track.{Track}
use Rattle.trains.specs.declared.record.Train.{Train}
use Rattle.trains.specs.Changes.{changed, on_track, reported, authorised, endangered, left_for, with_mode}
use Rattle.trains.specs.Orders.{with_orders}

-- the same train in the same slots
pub record SameTrain (a b : Train) : Type 0 where
  pub loco : a.loco ≡ b.loco
  pub ticket : a.ticket ≡ b.ticket
  pub start : a.start ≡ b.start
  pub slots : a.slots ≡ b.slots

-- no change makes it another train, or moves it to other slots
pub same-train : (t : Train) (mode left : ℕ) (k : Track) (os : List Order) → SameTrain (changed t mode left k os) t
same-train t mode left k os = record { loco = refl; ticket = refl; start = refl; slots = refl }

-- a position, an authority or a danger location leaves the mode, the mode left and the orders
pub track_leaves : (t : Train) (k : Track) → let u = on_track t k in (u.mode ≡ t.mode) × (u.left ≡ t.left) × (u.orders ≡ t.orders)
track_leaves t k = (refl, refl, refl)

-- a position leaves authority and danger location
pub position-leaves : (k : Track) (front rear : ℕ) → let u = reported k front rear in (u.granted ≡ k.granted) × (u.danger ≡ k.danger)
position-leaves k front rear = (refl, refl)

-- an authority leaves position and danger location
pub authority-leaves : (k : Track) (end : Option ℕ) → let u = authorised k end in (u.position ≡ k.position) × (u.danger ≡ k.danger)
authority-leaves k end = (refl, refl)

-- a danger location leaves position and authority
pub danger-leaves : (k : Track) (danger : Option ℕ) → let u = endangered k danger in (u.position ≡ k.position) × (u.granted ≡ k.granted)
danger-leaves k danger = (refl, refl)

-- an order put or cleared leaves the mode, the mode left and the track
pub order-leaves : (t : Train) (os : List Order) → let u = with_orders t os in (u.mode ≡ t.mode) × (u.left ≡ t.left) × (u.track ≡ t.track)
order-leaves t os = (refl, refl, refl)

-- a mode leaves the track and the orders
pub mode-leaves : (t : Train) (mode : ℕ) → let u = with_mode t mode in (u.track ≡ t.track) × (u.orders ≡ t.orders)
mode-leaves t mode = (refl, refl)

-- the mode left is kept in OV
pub left-kept : (t : Train) (mode : ℕ) → mode ≡ OV → (with_mode t mode).left ≡ t.mode
unfolding left_for
left-kept t mode e = rw (eq-eqb mode OV e)

-- and in no other mode
pub left_dropped : (t : Train) (mode : ℕ) → (mode ≡ OV → ⊥) → (with_mode t mode).left ≡ 0
unfolding left_for
left_dropped t mode e = rw (ne_eqb mode OV e)
