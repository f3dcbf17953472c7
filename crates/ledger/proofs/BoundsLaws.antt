-- An effect within bounds, taken into a session, is taken in; and a step back of a session is made.
use mathlib.Core.Path.{◌≡◌, refl, ap, ◌∙◌}
use mathlib.Core.Bool.{Bool, true, false, ◌&&◌}
use mathlib.Core.List.{List}
use Prim.Native.Nat.{ℕ, ◌-◌, ◌<◌}
use native.Mathlib.Omega.{arith}
use lib.ListN.{length}
use borrow.Author.Tests.{eq-eqb, lt-ltb, le-leb}
use Rattle.rules.specs.declared.effect.Effect.{Effect}
use Rattle.replay.specs.Demand3.{depth}
use Rattle.store.specs.Layout.{is_session, entry_bytes, entry_offset, session_bytes}
use Rattle.store.proofs.ViewLaws.{entry-room}
use Rattle.kinds.specs.declared.Ticket.{Ticket}
use Rattle.entries.specs.Entry.{has_entry}
use Rattle.entries.specs.Kept.{in_bounds}
use Rattle.entries.proofs.BoundsLaws.{InBounds}
use Rattle.ledger.specs.Back.{stepped_by, stepped_in}
use Rattle.ledger.specs.Settled.{settled, settled_in}

bounds_hold : (e : Effect) → InBounds e → in_bounds e ≡ true
bounds_hold e h = simp (lt-ltb _ _ h.changed, le-leb _ _ h.also, lt-ltb _ _ h.start, lt-ltb _ _ h.slots)

-- an effect within bounds, taken into a session
pub settled_in_lem : (bs : List ℕ) (counter : Ticket) (e : Effect) → length bs ≡ session_bytes → InBounds e → settled_in bs counter e ≡ settled bs counter e
unfolding settled_in
settled_in_lem bs counter e l h = simp (eq-eqb (length bs) session_bytes l, bounds_hold e h)

-- a session has all of the entry in each notch
pub notch_entry : (bs : List ℕ) (p : ℕ) → p < depth → has_entry bs (entry_offset p) ≡ is_session bs
notch_entry bs p h = ap (λ (b : Bool). is_session bs && b) (le-leb (entry_offset p) (session_bytes - entry_bytes) (omega (arith, entry-room p h))) ∙ by (is_session bs)
  where
    by : (b : Bool) → (b && true) ≡ b
    by true = refl
    by false = refl

-- a step back of a session
pub stepped_in_lem : (k : ℕ) (bs : List ℕ) → length bs ≡ session_bytes → stepped_in k bs ≡ stepped_by k bs
unfolding stepped_in
stepped_in_lem k bs l = simp (eq-eqb (length bs) session_bytes l)
