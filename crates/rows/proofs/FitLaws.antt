-- Records whose numbers fit a row: what that means, that their numbers read back, and that reading and every change keep it.
use Rattle.std.specs.Prelude.{Option, None, Some}
use Prim.Native.Nat.{ℕ, zero, suc, ◌*◌, ◌^◌, ◌≤◌, ◌<◌}
use mathlib.Core.Bool.{Bool, true, false, cond}
use mathlib.Core.List.{List, [], ◌∷◌}
use mathlib.Core.Logic.{◌⊎◌, inl, inr}
use mathlib.Core.Path.{◌≡◌, refl, ◌∙◌}
use native.Mathlib.Decide.{ℕ_discrete}
use native.Mathlib.Omega.{arith}
use lib.Dec.{eqb}
use lib.ListN.{length, get_or, drop, set, length-set}
use lib.Seq.{get_or-set_same, get_or-set_other, set_out}
use Rattle.numbers.specs.Fields.{field}
use Rattle.numbers.specs.Pieces.{unpack}
use Rattle.numbers.proofs.FieldLaws.{field_lt, lt_or_le}
use Rattle.numbers.proofs.PieceLaws.{Fit, none, one}
use Rattle.trains.specs.declared.record.Order.{Order}
use Rattle.trains.specs.declared.record.Position.{Position}
use Rattle.trains.specs.declared.record.Track.{Track}
use Rattle.trains.specs.declared.record.Train.{Train}
use Rattle.transitions.specs.Names.{OV}
use Rattle.kinds.specs.declared.Loco.{Loco}
use Rattle.kinds.specs.declared.Ticket.{Ticket}
use Rattle.kinds.specs.declared.Slot.{Slot}
use Rattle.trains.specs.Changes.{changed, on_track, reported, authorised, endangered, left_for, with_position, with_authority, with_danger, with_mode}
use Rattle.trains.specs.Orders.{set_at, room, order_place, with_orders, with_order, order_cleared}
use Rattle.trains.specs.Record.{no_order, order_count, order_at, fresh_train}
use Rattle.rows.specs.Parts.{bits, optional_of, position_of, order_of, optional_values, position_values, flag_of, number_of, position_flag, position_front, position_rear}
use Rattle.rows.specs.Row.{row_sizes, row_values, train_of, row_at}

-- ---- what fits

-- below what one byte holds
abbrev pub Byte : ℕ → Type 0
Byte x = x < 2 ^ 8

-- below what four bytes hold
abbrev pub Word : ℕ → Type 0
Word x = x < 2 ^ 32

abbrev pub OptionalFits : Option ℕ → Type 0
OptionalFits None = Unit {0}
OptionalFits (Some x) = Word x

abbrev pub PositionFits : Option Position → Type 0
PositionFits None = Unit {0}
PositionFits (Some p) = Word p.front × Word p.rear

pub record OrderFits (o : Order) : Type 0 where
  pub other : Word o.other.0
  pub limit : OptionalFits o.limit

pub record TrackFits (k : Track) : Type 0 where
  pub position : PositionFits k.position
  pub granted : OptionalFits k.granted
  pub danger : OptionalFits k.danger

-- a record that a row can hold: four orders, and each number within its bytes
pub record Fits (t : Train) : Type 0 where
  pub loco : Word t.loco.0
  pub ticket : Word t.ticket.0
  pub start : Byte t.start.0
  pub slots : Byte t.slots
  pub mode : Byte t.mode
  pub left : Byte t.left
  pub track : TrackFits t.track
  pub four : length t.orders ≡ order_count
  pub orders : (i : ℕ) → OrderFits (order_at t.orders i)

-- ---- each number of such a record has no more digits than its width

flag-fits : (p : Option ℕ) → Byte (flag_of p)
flag-fits None = omega arith
flag-fits (Some x) = omega arith

number-fits : (p : Option ℕ) → OptionalFits p → Word (number_of p)
number-fits None f = omega arith
number-fits (Some x) f = f

position_flag_lem : (p : Option Position) → Byte (position_flag p)
position_flag_lem None = omega arith
position_flag_lem (Some p) = omega arith

position-front : (p : Option Position) → PositionFits p → Word (position_front p)
position-front None f = omega arith
position-front (Some p) f = f.0

position_rear_lem : (p : Option Position) → PositionFits p → Word (position_rear p)
position_rear_lem None f = omega arith
position_rear_lem (Some p) f = f.1

-- a part of a row, and the rest of it
optional_fit : (p : Option ℕ) → OptionalFits p → {ws vs : List ℕ} → Fit ws vs → Fit (8 ∷ 32 ∷ ws) (flag_of p ∷ number_of p ∷ vs)
optional_fit p f r = one (flag-fits p) (one (number-fits p f) r)

order_fit : (o : Order) → OrderFits o → {ws vs : List ℕ} → Fit ws vs
    → Fit (32 ∷ 8 ∷ 32 ∷ ws) (o.other.0 ∷ flag_of o.limit ∷ number_of o.limit ∷ vs)
order_fit o f r = one f.other (one (flag-fits o.limit) (one (number-fits o.limit f.limit) r))

pub row_fit : (t : Train) → Fits t → Fit (bits row_sizes) (row_values t)
row_fit t f =
    let k : Track = t.track in
    one f.loco
    (one f.ticket
    (one f.start
    (one f.slots
    (one f.mode
    (one f.left
    (one (position_flag_lem k.position)
    (one (position-front k.position f.track.position)
    (one (position_rear_lem k.position f.track.position)
    (optional_fit k.granted f.track.granted
    (optional_fit k.danger f.track.danger
    (order_fit (order_at t.orders 0) (f.orders 0)
    (order_fit (order_at t.orders 1) (f.orders 1)
    (order_fit (order_at t.orders 2) (f.orders 2)
    (order_fit (order_at t.orders 3) (f.orders 3)
    none))))))))))))))

-- ---- the numbers of such a record read back

optional-back : (p : Option ℕ) → optional_of (optional_values p) ≡ p
unfolding optional_of
optional-back None = refl
optional-back (Some x) = refl

position-back : (p : Option Position) → position_of (position_values p) ≡ p
unfolding position_of
position-back None = refl
position-back (Some p) = refl

order-back : (o : Order) → ◌≡◌ {A = Order} (record { other = o.other; limit = optional_of (optional_values o.limit) }) o
order-back o = λ i. record { other = o.other; limit = optional-back o.limit i }

four-orders : (os : List Order) → length os ≡ 4 → order_at os 0 ∷ order_at os 1 ∷ order_at os 2 ∷ order_at os 3 ∷ [] ≡ os
four-orders [] h = absurd (omega arith)
four-orders (a ∷ []) h = absurd (omega arith)
four-orders (a ∷ (b ∷ [])) h = absurd (omega arith)
four-orders (a ∷ (b ∷ (d ∷ []))) h = absurd (omega arith)
four-orders (a ∷ (b ∷ (d ∷ (e ∷ [])))) h = refl
four-orders (a ∷ (b ∷ (d ∷ (e ∷ (f ∷ os))))) h = absurd (omega arith)

pub train-back : (t : Train) → Fits t → train_of (row_values t) ≡ t
unfolding optional_of position_of
train-back t f =
    (λ i. record {
      loco = t.loco;
      ticket = t.ticket;
      start = t.start;
      slots = t.slots;
      mode = t.mode;
      left = t.left;
      track = record {
        position = position-back t.track.position i;
        granted = optional-back t.track.granted i;
        danger = optional-back t.track.danger i;
      };
      orders = order-back (order_at t.orders 0) i ∷ order-back (order_at t.orders 1) i
          ∷ order-back (order_at t.orders 2) i ∷ order-back (order_at t.orders 3) i ∷ [];
    })
    ∙ (λ i. changed t t.mode t.left t.track (four-orders t.orders f.four i))

-- ---- what is read fits

optional-fits : (vs : List ℕ) → Word (get_or vs 1 0) → OptionalFits (optional_of vs)
unfolding optional_of
optional-fits vs h = go (eqb (get_or vs 0 0) 0)
  where
    go : (b : Bool) → OptionalFits (cond b None (Some (get_or vs 1 0)))
    go true = tt
    go false = h

position-fits : (vs : List ℕ) → Word (get_or vs 1 0) → Word (get_or vs 2 0) → PositionFits (position_of vs)
unfolding position_of
position-fits vs h k = go (eqb (get_or vs 0 0) 0)
  where
    go : (b : Bool) → PositionFits (cond b None (Some (record { front = get_or vs 1 0; rear = get_or vs 2 0 })))
    go true = tt
    go false = (h, k)

order-fits : (vs : List ℕ) → Word (get_or vs 0 0) → Word (get_or (drop 1 vs) 1 0) → OrderFits (order_of vs)
order-fits vs h k = record { other = h; limit = optional-fits (drop 1 vs) k }

no_order-fits : OrderFits no_order
no_order-fits = record { other = omega arith; limit = tt }

-- four orders fit where each does
four_fit : (a b d e : Order) → OrderFits a → OrderFits b → OrderFits d → OrderFits e
    → (i : ℕ) → OrderFits (order_at (a ∷ b ∷ d ∷ e ∷ []) i)
four_fit a b d e fa fb fd fe zero = fa
four_fit a b d e fa fb fd fe (suc zero) = fb
four_fit a b d e fa fb fd fe (suc (suc zero)) = fd
four_fit a b d e fa fb fd fe (suc (suc (suc zero))) = fe
four_fit a b d e fa fb fd fe (suc (suc (suc (suc i)))) = no_order-fits

-- every row reads as a record that fits
pub fits_read : (s : List ℕ) (at : ℕ) → Fits (row_at s at)
unfolding row_at unpack
fits_read s at =
    let word : (p : ℕ) → Word (field s p 32) = λ p. field_lt s p 32 in
    let byte : (p : ℕ) → Byte (field s p 8) = λ p. field_lt s p 8 in
    let os : List ℕ = drop 13 (unpack s (8 * at) (bits row_sizes)) in
    record {
      loco = word _;
      ticket = word _;
      start = byte _;
      slots = byte _;
      mode = byte _;
      left = byte _;
      track = record {
        position = position-fits _ (word _) (word _);
        granted = optional-fits _ (word _);
        danger = optional-fits _ (word _);
      };
      four = refl;
      orders =
          four_fit _ _ _ _ (order-fits os (word _) (word _)) (order-fits (drop 3 os) (word _) (word _))
          (order-fits (drop 6 os) (word _) (word _)) (order-fits (drop 9 os) (word _) (word _));
    }

-- ---- what is made anew fits, and each change keeps what fits

-- the same train with parts that fit
pub fits-changed : (t : Train) (mode left : ℕ) (k : Track) (os : List Order) → Fits t → Byte mode → Byte left → TrackFits k
    → length os ≡ order_count → ((i : ℕ) → OrderFits (order_at os i)) → Fits (changed t mode left k os)
fits-changed t mode left k os f m l g n o = record {
  loco = f.loco;
  ticket = f.ticket;
  start = f.start;
  slots = f.slots;
  mode = m;
  left = l;
  track = g;
  four = n;
  orders = o;
}

pub fits_fresh : (loco : Loco) (ticket : Ticket) (start : Slot) (slots : ℕ) → Word loco.0 → Word ticket.0 → Byte start.0 → Byte slots
    → Fits (fresh_train loco ticket start slots)
fits_fresh loco ticket start slots l t s n = record {
  loco = l;
  ticket = t;
  start = s;
  slots = n;
  mode = omega arith;
  left = omega arith;
  track = record { position = tt; granted = tt; danger = tt };
  four = refl;
  orders = four_fit no_order no_order no_order no_order no_order-fits no_order-fits no_order-fits no_order-fits;
}

on_track_lem : (t : Train) (k : Track) → Fits t → TrackFits k → Fits (on_track t k)
on_track_lem t k f g = fits-changed t t.mode t.left k t.orders f f.mode f.left g f.four f.orders

pub fits-position : (t : Train) (front rear : ℕ) → Fits t → Word front → Word rear → Fits (with_position t front rear)
fits-position t front rear f x y =
    on_track_lem t (reported t.track front rear) f (record { position = (x, y); granted = f.track.granted; danger = f.track.danger })

pub fits-authority : (t : Train) (end : Option ℕ) → Fits t → OptionalFits end → Fits (with_authority t end)
fits-authority t end f x =
    on_track_lem t (authorised t.track end) f (record { position = f.track.position; granted = x; danger = f.track.danger })

pub fits-danger : (t : Train) (danger : Option ℕ) → Fits t → OptionalFits danger → Fits (with_danger t danger)
fits-danger t danger f x =
    on_track_lem t (endangered t.track danger) f (record { position = f.track.position; granted = f.track.granted; danger = x })

left-fits : (left mode : ℕ) → Byte left → Byte (left_for left mode)
unfolding left_for
left-fits left mode h = go (eqb mode OV)
  where
    go : (b : Bool) → Byte (cond b left 0)
    go true = h
    go false = omega arith

pub fits-mode : (t : Train) (mode : ℕ) → Fits t → Byte mode → Fits (with_mode t mode)
fits-mode t mode f m =
    fits-changed t mode (left_for t.mode mode) t.track t.orders f m (left-fits t.mode mode f.mode) f.track f.four f.orders

set-fits : (os : List Order) (f : Option ℕ) (o : Order) → ((i : ℕ) → OrderFits (order_at os i)) → OrderFits o
    → (i : ℕ) → OrderFits (order_at (set_at os f o) i)
unfolding set_at
set-fits os None o h g i = h i
set-fits os (Some j) o h g i = rw_order (ℕ_discrete i j) (lt_or_le j (length os))
  where
    rw_order : Dec (i ≡ j) → (j < length os) ⊎ (length os ≤ j) → OrderFits (order_at (set os j o) i)
    rw_order (no n) k = rw (get_or-set_other os j i o no_order n) (h i)
    rw_order (yes e) (inl k) = rw (e, get_or-set_same os j o no_order k) g
    rw_order (yes e) (inr k) = rw (set_out os j o k) (h i)

set-four : (os : List Order) (f : Option ℕ) (o : Order) → length (set_at os f o) ≡ length os
unfolding set_at
set-four os None o = refl
set-four os (Some j) o = length-set os j o

with-orders : (t : Train) (g : Option ℕ) (o : Order) → Fits t → OrderFits o → Fits (with_orders t (set_at t.orders g o))
with-orders t g o f x =
    fits-changed t t.mode t.left t.track (set_at t.orders g o) f f.mode f.left f.track
    (set-four t.orders g o ∙ f.four) (set-fits t.orders g o f.orders x)

pub fits-order : (t : Train) (other : Ticket) (limit : Option ℕ) → Fits t → Word other.0 → OptionalFits limit → Fits (with_order t other limit)
fits-order t other limit f x y =
    with-orders t (room t.orders other) (record { other = other; limit = limit }) f (record { other = x; limit = y })

pub fits_cleared : (t : Train) (other : Ticket) → Fits t → Fits (order_cleared t other)
fits_cleared t other f = with-orders t (order_place t.orders other) no_order f no_order-fits
