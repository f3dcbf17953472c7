-- What the number of a mode is.
use mathlib.Core.Path.{◌≡◌}
use mathlib.Core.Bool.{true}
use Prim.Native.Nat.{ℕ, ◌≤◌}
use borrow.Author.Tests.{leb-true}
use lib.Dec.{leb}
use Rattle.numbers.proofs.Logic.{both}
use Rattle.transitions.specs.Names.{SB, IS, is_mode}

module _ (m : ℕ) (h : is_mode m ≡ true) where
  pub mode-low : SB ≤ m
  unfolding is_mode
  mode-low = leb-true SB m (both (leb SB m) (leb m IS) h).0

  pub mode-high : m ≤ IS
  unfolding is_mode
  mode-high = leb-true m IS (both (leb SB m) (leb m IS) h).1
