-- Laws of the orders of a train.
use Rattle.std.specs.Prelude.{Option, None, Some}
use Rattle.std.specs.Option.{option_or}
use Prim.Native.Nat.{ℕ, ◌<◌}
use mathlib.Core.Bool.{Bool, true, false, cond}
use mathlib.Core.List.{List}
use mathlib.Core.Path.{◌≡◌, refl}
use native.Mathlib.Omega.{arith}
use lib.ListN.{length}
use lib.Seq.{get_or-set_same, get_or-set_other}
use Rattle.kinds.specs.declared.Ticket.{Ticket}
use Rattle.trains.specs.declared.record.Order.{Order}
use Rattle.kinds.specs.Kinds.{same_ticket}
use Rattle.trains.specs.Record.{no_ticket, no_order, order_count, order_at}
use Rattle.trains.specs.Orders.{stands_under, place_under, order_place, room, Below, set_at}
use Rattle.kinds.proofs.FoundLaws.{first_below}

-- ---- what is found is one of the four places

nothing_below : (n : ℕ) → Below n None
nothing_below n i e = let z : ◌≡◌ {A = ℕ} 0 1 = cc in absurd (omega arith)

cond_below : (n : ℕ) (b : Bool) (f : Option ℕ) → Below n f → Below n (cond b None f)
cond_below n true f h = nothing_below n
cond_below n false f h = h

else_below : (n : ℕ) (f g : Option ℕ) → Below n f → Below n g → Below n (option_or f g)
else_below n None g hf hg = hg
else_below n (Some j) g hf hg = hf

pub place_below : (os : List Order) (x : Ticket) → Below order_count (place_under os x)
unfolding place_under
place_below os x i e = omega (arith, first_below (stands_under os x) 0 order_count i e)

pub order_below : (os : List Order) (x : Ticket) → Below order_count (order_place os x)
unfolding order_place
order_below os x = cond_below order_count (same_ticket x no_ticket) (place_under os x) (place_below os x)

pub room_below : (os : List Order) (x : Ticket) → Below order_count (room os x)
unfolding room
room_below os x =
    cond_below order_count (same_ticket x no_ticket) (option_or (place_under os x) (place_under os no_ticket))
    (else_below order_count (place_under os x) (place_under os no_ticket) (place_below os x) (place_below os no_ticket))

-- ---- which place it is

-- the place of the same other ticket is taken again
pub same_ticket_replaces : (os : List Order) (x : Ticket) (i : ℕ) → same_ticket x no_ticket ≡ false → place_under os x ≡ Some i → room os x ≡ Some i
unfolding room
same_ticket_replaces os x i e h = rw (e, h)

-- else the first free place
pub free_place_else : (os : List Order) (x : Ticket) → same_ticket x no_ticket ≡ false → place_under os x ≡ None
    → room os x ≡ place_under os no_ticket
unfolding room
free_place_else os x e h = rw (e, h)

-- there is no order under ticket 0, and no place for one
pub no_order_under_none : (os : List Order) → (order_place os no_ticket ≡ None) × (room os no_ticket ≡ None)
unfolding order_place room
no_order_under_none os = (refl, refl)

-- ---- an order put or cleared

module _ (os : List Order) (o : Order) (i : ℕ) where
  -- it stands in the place that was found
  pub set_there : i < length os → order_at (set_at os (Some i) o) i ≡ o
  unfolding set_at
  set_there h = get_or-set_same os i o no_order h

  -- and the other places stay
  pub set-others : (k : ℕ) → (k ≡ i → ⊥) → order_at (set_at os (Some i) o) k ≡ order_at os k
  unfolding set_at
  set-others k h = get_or-set_other os i k o no_order h
