-- What a deed, or a share of an SOS, makes of a train: a train that is refused stays, and no change makes it another train.
use mathlib.Core.Path.{◌≡◌, refl}
use mathlib.Core.Bool.{Bool, true, false, cond}
use mathlib.Core.List.{List}
use Prim.Native.Nat.{ℕ}
use lib.Dec.{eqb}
use borrow.Author.Tests.{eqb-true, eqb-false}
use Rattle.modes.specs.Next.{next_step}
use Rattle.modes.specs.declared.Step.{Step}
use Rattle.sos.specs.declared.shares.Share.{Share}
use Rattle.sos.specs.declared.shares.Share.TheVariants.{Nothing, NoPosition, Order}
use Rattle.trains.specs.Changes.{with_mode, with_position, with_authority, with_danger}
use Rattle.trains.specs.Orders.{has_order, order_cleared}
use Rattle.kinds.specs.Ranges.{is_position, is_none_or_location, location_from}
use Rattle.kinds.specs.declared.Ticket.{Ticket}
use Rattle.trains.specs.declared.record.Train.{Train}
use Rattle.trains.proofs.ChangeLaws.{SameTrain, same-train}
use Rattle.rules.specs.Deeds.{Deed, flags, position, authority, danger, clear, changed_with, changed_if, step_taken, mode_stepped, done}
use Rattle.rules.specs.Raising.{share_taken}
use Rattle.rules.specs.Ruling.{accepted_with, refused_with}

module _ (P : Train → Type 0) (t : Train) (before : P t) where
  -- what holds of the train, and of the changed one where the test holds, holds afterwards
  changed_if_lem : (test : Bool) (ground : ℕ) (after : Train) → (test ≡ true → P after) → P (changed_if test ground t after).train
  unfolding changed_if
  changed_if_lem true ground after h = h refl
  changed_if_lem false ground after h = before

  -- what holds of the train, and of the one in the next mode where the step is a transition, holds afterwards
  step-taken : (s : Step) → (s.answer ≡ 0 → (s.priority ≡ 0 → ⊥) → P (with_mode t s.mode)) → P (mode_stepped t s).train
  unfolding mode_stepped step_taken
  step-taken s h = outer (eqb s.answer 0) refl
    where
      inner : (b : Bool) → eqb s.priority 0 ≡ b → s.answer ≡ 0 → P (cond b t (with_mode t s.mode))
      inner true q e = before
      inner false q e = h e (eqb-false s.priority 0 q)

      outer : (b : Bool) → eqb s.answer 0 ≡ b
          → P (cond b (changed_with (accepted_with s.mode s.priority s.tie) (step_taken t s)) (changed_with (refused_with s.answer) t)).train
      outer true e = inner (eqb s.priority 0) refl (eqb-true s.answer 0 e)
      outer false e = before

-- each change that a deed may make keeps what is to hold of a train
pub record DeedsKeep (P : Train → Type 0) (t : Train) : Type 0 where
  pub as_it_was : P t
  pub in_mode : (fs : List ℕ) → (next_step t.mode fs).answer ≡ 0 → ((next_step t.mode fs).priority ≡ 0 → ⊥) → P (with_mode t (next_step t.mode fs).mode)
  pub at_position : (front rear : ℕ) → is_position front rear ≡ true → P (with_position t front rear)
  pub with-authority : (end : ℕ) → is_none_or_location end ≡ true → P (with_authority t (location_from end))
  pub with-danger : (location : ℕ) → is_none_or_location location ≡ true → P (with_danger t (location_from location))
  pub without_order : (other : Ticket) → has_order t other ≡ true → P (order_cleared t other)

-- then it holds of the train after any deed
pub after_deed : (P : Train → Type 0) (t : Train) → DeedsKeep P t → (d : Deed) → P (done d t).train
unfolding done
after_deed P t b (flags fs) = step-taken P t b.as_it_was (next_step t.mode fs) (b.in_mode fs)
after_deed P t b (position front rear) = changed_if_lem P t b.as_it_was _ _ _ (b.at_position front rear)
after_deed P t b (authority end) = changed_if_lem P t b.as_it_was _ _ _ (b.with-authority end)
after_deed P t b (danger location) = changed_if_lem P t b.as_it_was _ _ _ (b.with-danger location)
after_deed P t b (clear other) = changed_if_lem P t b.as_it_was _ _ _ (b.without_order other)

-- no deed makes it another train
pub deed_same : (d : Deed) (t : Train) → SameTrain (done d t).train t
deed_same d t =
    after_deed (λ (u : Train). SameTrain u t) t
    (record {
      as_it_was = same-train t t.mode t.left t.track t.orders;
      in_mode = λ fs e n. same-train t (next_step t.mode fs).mode _ t.track t.orders;
      at_position = λ front rear e. same-train t t.mode t.left _ t.orders;
      with-authority = λ end e. same-train t t.mode t.left _ t.orders;
      with-danger = λ location e. same-train t t.mode t.left _ t.orders;
      without_order = λ other e. same-train t t.mode t.left t.track _;
    }) d

-- nor does a share of an SOS
pub share-same : (share : Share) (other : Ticket) (t : Train) → SameTrain (share_taken share other t) t
unfolding share_taken
share-same Nothing other t = same-train t t.mode t.left t.track t.orders
share-same NoPosition other t = same-train t t.mode t.left t.track t.orders
share-same (Order limit) other t = same-train t t.mode t.left t.track _
