-- What is told of an entry: one of two refusals; and of a wrong one, which is in range, a mode as the mode due.
use mathlib.Core.Path.{◌≡◌, refl}
use mathlib.Core.Bool.{Bool, true, false}
use mathlib.Core.List.{List}
use Prim.Native.Nat.{ℕ, ◌≤◌}
use native.Mathlib.Omega.{arith}
use lib.Dec.{eqb}
use Rattle.transitions.specs.Names.{IS}
use Rattle.modes.proofs.Laws.{next_is_a_mode}
use Rattle.traces.specs.Entry.{mode_before, flags_of, mode_after, is_entry, bad_entry, is_out_of_range, follows, due_mode, judged}
use Rattle.traces.specs.Right.{IsInRange}
use Rattle.traces.proofs.EntryLaws.{by_tests}
use Rattle.traces.proofs.RightLaws.{inside, in_range_lem}

-- by the four tests
by_tests_lem : (w o c d : Bool) (previous m : ℕ) → (o ≡ false → previous ≤ IS) → (o ≡ false → m ≤ IS)
    → ((by_tests w o c d previous m).answer ≤ bad_entry) × ((by_tests w o c d previous m).due ≤ IS) × ((by_tests w o c d previous m).answer ≡ 0 → o ≡ false)
by_tests_lem false o c d previous m h l = (omega arith, omega arith, λ z. absurd (omega arith))
by_tests_lem true true c d previous m h l = (omega arith, omega arith, λ z. absurd (omega arith))
by_tests_lem true false false d previous m h l = (omega arith, h refl, λ z. refl)
by_tests_lem true false true false previous m h l = (omega arith, l refl, λ z. refl)
by_tests_lem true false true true previous m h l = (omega arith, omega arith, λ z. refl)

module _ (previous : ℕ) (e : List ℕ) where
  due-low : is_out_of_range previous e ≡ false → due_mode e ≤ IS
  unfolding due_mode
  due-low h = (next_is_a_mode (mode_before e) (flags_of e) (inside previous e h).stepped).1

  pub record IsTold : Type 0 where
    pub answer : (judged previous e).answer ≤ bad_entry
    pub due : (judged previous e).due ≤ IS
    pub in_range : (judged previous e).answer ≡ 0 → IsInRange e

  pub is-told : IsTold
  unfolding judged
  is-told =
      let told = by_tests_lem (is_entry e) (is_out_of_range previous e) (follows previous e) (eqb (mode_after e) (due_mode e)) previous (due_mode e)
      (λ h. (inside previous e h).previously) due-low in
      record { answer = told.0; due = told.1; in_range = λ z. in_range_lem previous e (told.2 z) }
