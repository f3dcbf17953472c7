-- OV is entered only from SB, FS, OS and PT: one test that is computed over the whole table, and what it says of a mode step.
use mathlib.Core.Path.{◌≡◌, refl, sym, ap, ◌∙◌}
use mathlib.Core.Bool.{Bool, true, false, cond, not, ◌||◌}
use mathlib.Core.List.{List, [], ◌∷◌, Memᴰ}
use Prim.Native.Nat.{ℕ}
use native.Mathlib.Omega.{arith}
use lib.Dec.{eqb}
use borrow.Author.Tests.{eqb-true, eq-eqb}
use Rattle.transitions.specs.Names.{OV}
use Rattle.transitions.specs.Table.{Transition, table, those, leaves_from}
use Rattle.transitions.proofs.Members.{of-those, all, each}
use Rattle.modes.specs.Next.{is_open, opens, refuses, next_step}
use Rattle.modes.specs.declared.Step.{Step}
use Rattle.modes.proofs.Choosing.{choice_stays}
use Rattle.modes.proofs.Laws.{Open, By, refused_exactly_on_its_grounds, chosen_is_open}
use Rattle.modes.proofs.Stepping.{next_chosen}
use Rattle.trains.specs.Changes.{left_for}
use Rattle.order.specs.InOrder.{leaves_for_ov, left_fits}

-- ---- the table

-- a transition for another mode, or from one of the four
abbrev enters_rightly : Transition → Bool
enters_rightly a = not (eqb a.target OV) || leaves_for_ov a.leaves

tested : all enters_rightly table ≡ true
unfolding table leaves_for_ov
tested = refl

pub into_override : (a : Transition) → Memᴰ a table → a.target ≡ OV → leaves_for_ov a.leaves ≡ true
into_override a h e =
    let b : not (eqb a.target OV) || leaves_for_ov a.leaves ≡ true = each enters_rightly table tested a h in
    rw (eq-eqb a.target OV e) at b

-- ---- a mode step

-- where a step is accepted, its mode and flags are not refused
pub step_good : (m : ℕ) (fs : List ℕ) → (next_step m fs).answer ≡ 0 → refuses m fs ≡ false
step_good m fs e = go (refuses m fs) refl
  where
    go : (b : Bool) → refuses m fs ≡ b → refuses m fs ≡ false
    go true q = absurd (omega (arith, (refused_exactly_on_its_grounds m fs).1 q))
    go false q = q

-- a step of a priority is by an open transition
pub step_by : (m : ℕ) (fs : List ℕ) → refuses m fs ≡ false → ((next_step m fs).priority ≡ 0 → ⊥)
    → (a : Transition) × Open m fs a × By (next_step m fs) a
step_by m fs good n = go (opens m fs) refl
  where
    go : (xs : List Transition) → opens m fs ≡ xs → (a : Transition) × Open m fs a × By (next_step m fs) a
    go [] q = absurd (n (ap (λ (s : Step). s.priority) (next_chosen m fs good ∙ choice_stays m (opens m fs) q)))
    go (a ∷ xs) q =
        let o = of-those (is_open fs) a (those (leaves_from m) table) (rw q (Memᴰ.head refl)) in
        let l = of-those (leaves_from m) a table o.0 in
        chosen_is_open m fs good a (record { listed = l.0; leaves = eqb-true a.leaves m l.1; set = o.1 })

-- the mode left, after a step by a transition
pub left_after : (m : ℕ) (fs : List ℕ) → refuses m fs ≡ false → ((next_step m fs).priority ≡ 0 → ⊥)
    → left_fits (next_step m fs).mode (left_for m (next_step m fs).mode) ≡ true
unfolding left_fits left_for
left_after m fs good n = go (eqb (next_step m fs).mode OV) refl
  where
    go : (b : Bool) → eqb (next_step m fs).mode OV ≡ b → cond b (leaves_for_ov (cond b m 0)) (eqb (cond b m 0) 0) ≡ true
    go true q =
        let a = step_by m fs good n in
        rw (← a.1.leaves) (into_override a.0 a.1.listed (sym a.2.mode ∙ eqb-true _ OV q))
    go false q = refl
