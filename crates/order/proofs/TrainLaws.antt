-- A train whose fields are in their ranges keeps them there, whatever is done to it: a deed, or an order put by an SOS.
use Rattle.std.specs.Prelude.{Option, None, Some}
use mathlib.Core.Path.{◌≡◌, refl, sym, ap, ◌∙◌}
use mathlib.Core.Bool.{Bool, true, false, cond, ◌||◌, true≢false}
use mathlib.Core.List.{List}
use mathlib.Core.Logic.{by_cases}
use Prim.Native.Nat.{ℕ, ◌≤◌, ◌<◌}
use native.Mathlib.Decide.{dec_lt}
use native.Mathlib.Omega.{arith}
use lib.Dec.{eqb}
use lib.ListN.{length, set, length-set, get_or-eq_default}
use borrow.Author.Tests.{eqb-true, eq-eqb, ne_eqb, leb-true}
use Rattle.transitions.specs.Names.{SB, IS}
use Rattle.modes.proofs.Laws.{next_is_a_mode}
use Rattle.sos.specs.Shares.{own_front, behind, share_of_l1, share_behind}
use Rattle.sos.specs.declared.shares.Share.{Share}
use Rattle.sos.specs.declared.shares.Share.TheVariants.{Nothing as NoShare, NoPosition, Order as Ordered}
use Rattle.trains.specs.Changes.{changed}
use Rattle.kinds.specs.Kinds.{same_ticket}
use Rattle.trains.specs.Orders.{stands_under, place_under, order_place, room, set_at, order_put, order_gone}
use Rattle.kinds.specs.Ranges.{none, last_location, is_location, is_none_or_location, location_from}
use Rattle.trains.specs.Record.{no_ticket, no_order, order_count, order_at}
use Rattle.kinds.specs.declared.Ticket.{Ticket}
use Rattle.trains.specs.declared.record.Order.{Order}
use Rattle.trains.specs.declared.record.Position.{Position}
use Rattle.trains.specs.declared.record.Track.{Track}
use Rattle.trains.specs.declared.record.Train.{Train}
use Rattle.kinds.proofs.FoundLaws.{first-true, first-before}
use Rattle.trains.proofs.OrderLaws.{order_below, room_below, same_ticket_replaces}
use Rattle.kinds.proofs.RangeLaws.{position-ends}
use Rattle.rules.specs.Deeds.{Deed, done}
use Rattle.rules.specs.Raising.{share_taken}
use Rattle.order.specs.InOrder.{LocationFits, PositionFits, LimitFits, left_fits, TicketFits, IsOrder, ShareOther, OrdersFit, TrainFits}
use Rattle.order.proofs.DeedLaws.{after_deed}
use Rattle.order.proofs.OverrideLaws.{step_good, left_after}
use Rattle.order.proofs.RowLaws.{set_each, no_two_set}

-- ---- orders

-- two numbers that are the same, turned round
pub same-turned : (a b : ℕ) → eqb a b ≡ true → eqb b a ≡ true
same-turned a b e = eq-eqb b a (sym (eqb-true a b e))

module _ (c own : Ticket) (os : List Order) (fits : OrdersFit c own os) where
  -- one place set, to an order under a ticket that no other place has, or to none
  orders-set : (i : ℕ) (o : Order) → i < order_count → TicketFits c o.other → same_ticket o.other own ≡ false
      → (same_ticket o.other no_ticket ≡ true → o ≡ no_order) → LimitFits o.limit
      → ((k : ℕ) → (k ≡ i → ⊥) → IsOrder o → IsOrder (order_at os k) → ShareOther o (order_at os k) → ⊥)
      → OrdersFit c own (set os i o)
  orders-set i o below issued other free limit alone =
      let h : i < length os = omega (arith, fits.four) in
      record {
        four = length-set os i o ∙ fits.four;
        issued = set_each (λ (k : ℕ) (x : Order). TicketFits c x.other) no_order os i o h issued (λ k n. fits.issued k);
        other = set_each (λ (k : ℕ) (x : Order). same_ticket x.other own ≡ false) no_order os i o h other (λ k n. fits.other k);
        once = no_two_set IsOrder ShareOther (λ a b. same-turned a.other.0 b.other.0) no_order os i o h alone fits.once;
        free = set_each (λ (k : ℕ) (x : Order). same_ticket x.other no_ticket ≡ true → x ≡ no_order) no_order os i o h free (λ k n. fits.free k);
        limits = set_each (λ (k : ℕ) (x : Order). LimitFits x.limit) no_order os i o h limit (λ k n. fits.limits k);
      }

  set_found : (f : Option ℕ) (o : Order) → ((i : ℕ) → f ≡ Some i → OrdersFit c own (set os i o)) → OrdersFit c own (set_at os f o)
  unfolding set_at
  set_found None o h = fits
  set_found (Some i) o h = h i refl

  -- an order cleared
  orders_gone : (x : Ticket) → 1 ≤ own.0 → OrdersFit c own (order_gone os x)
  orders_gone x some =
      set_found (order_place os x) no_order
      (λ i e.
      orders-set i no_order (order_below os x i e) (record { last = omega arith; issued = omega arith })
      (ne_eqb 0 own.0 (λ q. omega arith)) (λ z. refl) tt (λ k n z. absurd (true≢false z)))

  -- the place that an order gets is the only one under its ticket
  none_under : (x : Ticket) → 1 ≤ x.0 → place_under os x ≡ None → (k : ℕ) → same_ticket (order_at os k).other x ≡ true → ⊥
  unfolding place_under stands_under
  none_under x some e k s =
      by_cases (dec_lt k order_count)
      (λ l. true≢false (sym s ∙ first-before (stands_under os x) 0 order_count k (omega arith) (omega arith) (rw e tt)))
      (λ n. omega (arith, eqb-true (order_at os k).other.0 x.0 s, ap (λ (o : Order). o.other.0) (get_or-eq_default os no_order {n = k} (omega (arith, fits.four, n)))))

  stands_under_lem : (x : Ticket) (j : ℕ) → place_under os x ≡ Some j → same_ticket (order_at os j).other x ≡ true
  unfolding place_under stands_under
  stands_under_lem x j q = first-true (stands_under os x) 0 order_count j q

  only_under : (x : Ticket) (i : ℕ) → 1 ≤ x.0 → room os x ≡ Some i → (k : ℕ) → (k ≡ i → ⊥) → same_ticket x (order_at os k).other ≡ true → ⊥
  only_under x i some e k n s = go (place_under os x) refl
    where
      go : (f : Option ℕ) → place_under os x ≡ f → ⊥
      go None q = none_under x some q k (same-turned x.0 (order_at os k).other.0 s)
      go (Some j) q =
          let same : j ≡ i = cc (same_ticket_replaces os x j (ne_eqb x.0 0 (λ z. omega arith)) q, e) in
          let there : (order_at os j).other.0 ≡ x.0 = eqb-true (order_at os j).other.0 x.0 (stands_under_lem x j q) in
          let here : x.0 ≡ (order_at os k).other.0 = eqb-true x.0 (order_at os k).other.0 s in
          n
          (fits.once k j (ne_eqb (order_at os k).other.0 0 (λ z. omega arith)) (ne_eqb (order_at os j).other.0 0 (λ z. omega arith))
          (eq-eqb (order_at os k).other.0 (order_at os j).other.0 (omega arith))
          ∙ same)

  -- an order put under another's ticket
  orders-put : (x : Ticket) (limit : Option ℕ) → 1 ≤ x.0 → TicketFits c x → same_ticket x own ≡ false → LimitFits limit → OrdersFit c own (order_put os x limit)
  orders-put x limit some issued other fit =
      set_found (room os x) (record { other = x; limit = limit })
      (λ i e.
      orders-set i (record { other = x; limit = limit }) (room_below os x i e) issued other
      (λ z. absurd (true≢false (sym z ∙ ne_eqb x.0 0 (λ q. omega arith)))) fit (λ k n a b. only_under x i some e k n))

-- ---- one train

-- a change that leaves loco, ticket and slots
fits-changed : (c : Ticket) (t : Train) (mode left : ℕ) (k : Track) (os : List Order) → TrainFits c t → (SB ≤ mode) × (mode ≤ IS) → left_fits mode left ≡ true
    → PositionFits k.position → LocationFits k.granted → LocationFits k.danger → OrdersFit c t.ticket os
    → TrainFits c (changed t mode left k os)
fits-changed c t mode left k os h m l p g d o =
    record {
      loco = h.loco;
      ticket = h.ticket;
      issued = h.issued;
      run = h.run;
      mode = m;
      left = l;
      position = p;
      granted = g;
      danger = d;
      orders = o;
    }

location-fits : (number : ℕ) → is_none_or_location number ≡ true → LocationFits (location_from number)
unfolding is_none_or_location location_from
location-fits number e = go (eqb number none) e
  where
    go : (b : Bool) → (b || is_location number) ≡ true → LocationFits (cond b None (Some number))
    go true q = tt
    go false q = leb-true number last_location q

-- A DEED LEAVES EVERY FIELD IN ITS RANGE
pub deed_fits : (c : Ticket) (t : Train) → TrainFits c t → (d : Deed) → TrainFits c (done d t).train
deed_fits c t h =
    after_deed (TrainFits c) t (record {
      as_it_was = h;
      in_mode = λ fs e n.
          let good = step_good t.mode fs e in
          fits-changed c t _ _ t.track t.orders h (next_is_a_mode t.mode fs good) (left_after t.mode fs good n) h.position h.granted h.danger h.orders;
      at_position = λ front rear e.
          fits-changed c t t.mode t.left _ t.orders h h.mode h.left (position-ends front rear e) h.granted h.danger h.orders;
      with-authority = λ end e.
          fits-changed c t t.mode t.left _ t.orders h h.mode h.left h.position (location-fits end e) h.danger h.orders;
      with-danger = λ location e.
          fits-changed c t t.mode t.left _ t.orders h h.mode h.left h.position h.granted (location-fits location e) h.orders;
      without_order = λ other e.
          fits-changed c t t.mode t.left t.track _ h h.mode h.left h.position h.granted h.danger
          (orders_gone c t.ticket t.orders h.orders other h.ticket);
    })

-- ---- shares

-- a share's limit is in its range
abbrev pub ShareFits : Share → Type 0
ShareFits NoShare = Unit
ShareFits NoPosition = Unit
ShareFits (Ordered limit) = LimitFits limit

front_fits : (p : Option Position) → PositionFits p → ShareFits (own_front p)
unfolding own_front
front_fits None h = tt
front_fits (Some p) h = h.0

behind-fits : (p : Option Position) (margin : ℕ) → PositionFits p → ShareFits (behind p margin)
unfolding behind
behind-fits None margin h = tt
behind-fits (Some p) margin h = omega (arith, h.0, h.1)

pub share1_fits : (measure : ℕ) (l1 : Train) → PositionFits l1.track.position → ShareFits (share_of_l1 measure l1)
unfolding share_of_l1
share1_fits measure l1 h = by (eqb measure 4) (eqb measure 6)
  where
    by : (m4 m6 : Bool) → ShareFits (cond m4 (own_front l1.track.position) (cond m6 (Ordered None) NoShare))
    by true m6 = front_fits l1.track.position h
    by false true = tt
    by false false = tt

pub share2_fits : (measure : ℕ) (ahead own : Option Position) (margin : ℕ) → PositionFits ahead → PositionFits own → ShareFits (share_behind measure ahead own margin)
unfolding share_behind
share2_fits measure ahead own margin h k = by (eqb measure 2) (eqb measure 3) (eqb measure 4) (eqb measure 5) (eqb measure 6)
  where
    by : (m2 m3 m4 m5 m6 : Bool)
        → ShareFits (cond m2 (behind ahead margin) (cond m3 (own_front own) (cond m4 (own_front own) (cond m5 (Ordered None) (cond m6 (Ordered None) NoShare)))))
    by true m3 m4 m5 m6 = behind-fits ahead margin h
    by false true m4 m5 m6 = front_fits own k
    by false false true m5 m6 = front_fits own k
    by false false false true m6 = tt
    by false false false false true = tt
    by false false false false false = tt

-- A SHARE LEAVES EVERY FIELD IN ITS RANGE, under a ticket that was issued and is not the train's own
pub share-fits : (c : Ticket) (t : Train) (share : Share) (x : Ticket) → TrainFits c t → ShareFits share → 1 ≤ x.0 → TicketFits c x
    → same_ticket x t.ticket ≡ false → TrainFits c (share_taken share x t)
unfolding share_taken
share-fits c t NoShare x h f some issued other = h
share-fits c t NoPosition x h f some issued other = h
share-fits c t (Ordered limit) x h f some issued other =
    fits-changed c t t.mode t.left t.track _ h h.mode h.left h.position h.granted h.danger
    (orders-put c t.ticket t.orders h.orders x limit some issued other f)
