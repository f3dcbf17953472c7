-- The mode step: what input that is not refused gives a walk, and what the walk over a mode's transitions gives the step.
use mathlib.Core.Path.{◌≡◌}
use mathlib.Core.Bool.{true, false, ◌||◌}
use mathlib.Core.List.{List}
use Prim.Native.Nat.{ℕ, ◌≤◌}
use lib.Dec.{eqb}
use lib.ListN.{length}
use borrow.Author.Tests.{eqb-true, not-false}
use Rattle.transitions.specs.Names.{SB, IS, is_mode}
use Rattle.numbers.proofs.Logic.{neither}
use Rattle.transitions.proofs.NameLaws.{mode-low, mode-high}
use Rattle.modes.specs.Flags.{flag_count, wrong_count, flag_above_one}
use Rattle.modes.specs.Next.{opens, choose, mode_out_of_range, refuses, refused, next_step}

-- what holds of a mode and flags that are not refused
pub record Taken (m : ℕ) (fs : List ℕ) : Type 0 where
  pub low : SB ≤ m
  pub high : m ≤ IS
  pub count : length fs ≡ flag_count

pub taken : (m : ℕ) (fs : List ℕ) → refuses m fs ≡ false → Taken m fs
unfolding refuses
taken m fs e =
    let mode = not-false (is_mode m) (neither (mode_out_of_range m) (wrong_count fs || flag_above_one fs) e).0 in
    let flags = (neither (wrong_count fs) (flag_above_one fs) (neither (mode_out_of_range m) (wrong_count fs || flag_above_one fs) e).1).0 in
    record {
      low = mode-low m mode;
      high = mode-high m mode;
      count = eqb-true (length fs) flag_count (not-false (eqb (length fs) flag_count) flags);
    }

module _ (m : ℕ) (fs : List ℕ) where
  pub next-refused : refuses m fs ≡ true → refused ≡ next_step m fs
  unfolding next_step
  next-refused e = rw e

  pub next_chosen : refuses m fs ≡ false → next_step m fs ≡ choose m (opens m fs)
  unfolding next_step
  next_chosen e = rw e
