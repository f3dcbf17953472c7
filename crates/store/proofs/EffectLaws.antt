-- Laws of effects on the view: what an effect changes and what it leaves.
use Prim.Native.Nat.{ℕ, zero, suc, ◌+◌, ◌-◌, ◌≤◌, ◌<◌}
use mathlib.Core.Bool.{Bool, true, false, cond, not, ◌&&◌}
use mathlib.Core.List.{List}
use mathlib.Core.Logic.{⊎_elim, ◌⊎◌, inl, inr, ◌≢◌}
use mathlib.Core.Path.{◌≡◌, refl, ap, ◌∙◌}
use native.Mathlib.Omega.{arith}
use lib.Dec.{eqb}
use lib.ListN.{length, get_or, set, length-set}
use lib.Seq.{get_or-set_same, get_or-set_other}
use Rattle.numbers.proofs.FieldLaws.{lt_or_le}
use Rattle.kinds.specs.Kinds.{last_slot, slot_in_range}
use Rattle.kinds.specs.declared.Slot.{Slot}
use Rattle.kinds.specs.Ranges.{one_to}
use Rattle.trains.specs.Record.{blank_train}
use Rattle.kinds.proofs.RangeLaws.{one-to}
use Rattle.rules.specs.declared.effect.Effect.{Effect}
use Rattle.rules.specs.Effect.{slot_marked, marked, applied}
use Rattle.rules.specs.View.{View, row_in, mark_of, is_taken}
use Rattle.store.proofs.BookLaws.{length-slot_marked}

-- ---- rows

-- the second change's row is its record
pub applied-also : (v : View) (e : Effect) → e.also.row < length v.rows → row_in (applied v e) e.also.row ≡ e.also.train
unfolding applied
applied-also v e h =
    get_or-set_same (set v.rows e.changed.row e.changed.train) e.also.row e.also.train blank_train
    (rw (length-set v.rows e.changed.row e.changed.train) h)

-- and the first one's, where it is another row
pub applied-changed : (v : View) (e : Effect) → e.changed.row < length v.rows → e.changed.row ≢ e.also.row → row_in (applied v e) e.changed.row ≡ e.changed.train
unfolding applied
applied-changed v e h ne =
    get_or-set_other (set v.rows e.changed.row e.changed.train) e.also.row e.changed.row e.also.train blank_train ne
    ∙ get_or-set_same v.rows e.changed.row e.changed.train blank_train h

-- every other row stays
pub applied_row_stays : (v : View) (e : Effect) (j : ℕ) → j ≢ e.changed.row → j ≢ e.also.row → row_in (applied v e) j ≡ row_in v j
unfolding applied
applied_row_stays v e j n m =
    get_or-set_other (set v.rows e.changed.row e.changed.train) e.also.row j e.also.train blank_train m
    ∙ get_or-set_other v.rows e.changed.row j e.changed.train blank_train n

-- ---- the book

slot_stays : (book : List ℕ) (slot mark other : ℕ) → 1 ≤ other → other ≢ slot → get_or (slot_marked book slot mark) (other - 1) 0 ≡ get_or book (other - 1) 0
unfolding slot_marked
slot_stays book slot mark other h ne = by (one_to last_slot slot) refl
  where
    by : (b : Bool) → one_to last_slot slot ≡ b → get_or (cond b (set book (slot - 1) mark) book) (other - 1) 0 ≡ get_or book (other - 1) 0
    by true e =
        let r : (1 ≤ slot) × (slot ≤ last_slot) = one-to last_slot slot e in
        get_or-set_other book (slot - 1) (other - 1) mark 0 (λ q. ne (omega arith))
    by false e = refl

-- a slot outside the run stays
pub marked-stays : (book : List ℕ) (slot n mark other : ℕ) → 1 ≤ other → (other < slot) ⊎ (slot + n ≤ other)
    → get_or (marked book slot n mark) (other - 1) 0 ≡ get_or book (other - 1) 0
unfolding marked
marked-stays book slot zero mark other h o = refl
marked-stays book slot (suc n) mark other h o =
    marked-stays (slot_marked book slot mark) (suc slot) n mark other h (⊎_elim (λ a. inl (omega arith)) (λ a. inr (omega arith)) o)
    ∙ slot_stays book slot mark other h (λ e. ⊎_elim (λ a. omega arith) (λ a. omega arith) o)

-- and is taken as before
pub taken-stays : (book : List ℕ) (slot n mark : ℕ) (other : Slot) → (other.0 < slot) ⊎ (slot + n ≤ other.0)
    → is_taken (marked book slot n mark) other ≡ is_taken book other
unfolding is_taken
taken-stays book slot n mark other o = by (slot_in_range other) refl
  where
    by : (b : Bool) → slot_in_range other ≡ b
        → (b && not (eqb (mark_of (marked book slot n mark) other) 0)) ≡ (b && not (eqb (mark_of book other) 0))
    by true e = ap (λ (x : ℕ). not (eqb x 0)) (marked-stays book slot n mark other.0 (one-to last_slot other.0 e).0 o)
    by false e = refl

marked_here : (book : List ℕ) (slot mark : ℕ) → one_to last_slot slot ≡ true → last_slot ≤ length book → get_or (slot_marked book slot mark) (slot - 1) 0 ≡ mark
unfolding slot_marked
marked_here book slot mark e room =
    let r : (1 ≤ slot) × (slot ≤ last_slot) = one-to last_slot slot e in
    rw e (get_or-set_same book (slot - 1) mark 0 (omega arith))

-- a slot of the run has the mark
pub marked-run : (book : List ℕ) (slot n mark other : ℕ) → last_slot ≤ length book → one_to last_slot other ≡ true → slot ≤ other → other < slot + n
    → get_or (marked book slot n mark) (other - 1) 0 ≡ mark
unfolding marked
marked-run book slot zero mark other room e a b = absurd (omega arith)
marked-run book slot (suc n) mark other room e a b =
    let r : (1 ≤ other) × (other ≤ last_slot) = one-to last_slot other e in
    ⊎_elim
    (λ l. marked-run (slot_marked book slot mark) (suc slot) n mark other (omega (arith, length-slot_marked book slot mark)) e l (omega arith))
    (λ l.
    let same : slot ≡ other = omega arith in
    marked-stays (slot_marked book slot mark) (suc slot) n mark other (omega arith) (inl (omega arith))
    ∙ ap (λ (x : ℕ). get_or (slot_marked book x mark) (other - 1) 0) same
    ∙ marked_here book other mark e room)
    (lt_or_le slot other)
