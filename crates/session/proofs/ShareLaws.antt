-- What an SOS gives a train fits its row: the limits are locations of positions that fit.
use Rattle.std.specs.Prelude.{None, Option, Some}
use mathlib.Core.Bool.{Bool, true, false, cond}
use Prim.Native.Nat.{ℕ, ◌^◌, ◌<◌}
use native.Mathlib.Omega.{arith}
use lib.Dec.{eqb}
use Rattle.rows.proofs.FitLaws.{Word, PositionFits, OptionalFits, Fits, fits-order}
use Rattle.sos.specs.Shares.{own_front, behind, by_measure, share_of_l1, share_behind, share_of_l2}
use Rattle.sos.specs.declared.shares.Share.{Share}
use Rattle.sos.specs.declared.shares.Share.TheVariants.{Nothing, NoPosition, Order}
use Rattle.kinds.specs.declared.Ticket.{Ticket}
use Rattle.trains.specs.declared.record.Position.{Position}
use Rattle.trains.specs.declared.record.Train.{Train}
use Rattle.rules.specs.Raising.{share_taken}

-- a share whose limit fits its bytes
unfoldable pub ShareFits : Share → Type 0
ShareFits Nothing = Unit {0}
ShareFits NoPosition = Unit {0}
ShareFits (Order limit) = OptionalFits limit

nothing-fits : ShareFits Nothing
unfolding ShareFits
nothing-fits = tt

bare_fits : ShareFits (Order None)
unfolding ShareFits
bare_fits = tt

own_front-fits : (p : Option Position) → PositionFits p → ShareFits (own_front p)
unfolding own_front ShareFits
own_front-fits None f = tt
own_front-fits (Some p) f = f.0

behind-fits : (p : Option Position) (distance : ℕ) → PositionFits p → ShareFits (behind p distance)
unfolding behind ShareFits
behind-fits None distance f = tt
behind-fits (Some p) distance f = let h : p.rear < 2 ^ 32 = f.1 in omega arith

either_fits : (b : Bool) (x y : Share) → ShareFits x → ShareFits y → ShareFits (cond b x y)
either_fits true x y f g = f
either_fits false x y f g = g

-- a measure's share and those of the others
by_measure-fits : (measure m : ℕ) (x y : Share) → ShareFits x → ShareFits y → ShareFits (by_measure measure m x y)
by_measure-fits measure m x y f g = either_fits (eqb measure m) x y f g

pub share_of_l1-fits : (measure : ℕ) (l1 : Train) → Fits l1 → ShareFits (share_of_l1 measure l1)
unfolding share_of_l1
share_of_l1-fits measure l1 f =
    by_measure-fits measure 4 _ _ (own_front-fits l1.track.position f.track.position)
    (by_measure-fits measure 6 _ _ bare_fits
    nothing-fits)

pub share_of_l2-fits : (measure : ℕ) (l1 l2 : Train) (distance : ℕ) → Fits l1 → Fits l2 → ShareFits (share_of_l2 measure l1 l2 distance)
unfolding share_behind
share_of_l2-fits measure l1 l2 distance f g =
    let own : ShareFits (own_front l2.track.position) = own_front-fits l2.track.position g.track.position in
    by_measure-fits measure 2 _ _ (behind-fits l1.track.position distance f.track.position)
    (by_measure-fits measure 3 _ _ own
    (by_measure-fits measure 4 _ _ own
    (by_measure-fits measure 5 _ _ bare_fits
    (by_measure-fits measure 6 _ _ bare_fits
    nothing-fits))))

-- a train that takes such a share under a ticket that fits
pub share_taken-fits : (share : Share) (other : Ticket) (t : Train) → Fits t → Word other.0 → ShareFits share → Fits (share_taken share other t)
unfolding share_taken ShareFits
share_taken-fits Nothing other t f w s = f
share_taken-fits NoPosition other t f w s = f
share_taken-fits (Order limit) other t f w s = fits-order t other limit f w s
