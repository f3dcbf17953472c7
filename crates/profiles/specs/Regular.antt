-- What a profile keeps to, so that the laws of any profile are laws of it.
use Rattle.std.specs.Prelude.{◌≡◌, List, ◌++◌, ℕ, ◌<◌, length, get_or}
use mathlib.Core.Logic.{◌⊎◌}
use Rattle.numbers.specs.Pieces.{total}
use Rattle.framing.specs.Refusals.{none}
use Rattle.profiles.specs.Profiles.{Profile, widths_for}

-- each entry has the pieces that it says, and the rules look at an entry's own bytes, refuse with 4 alone, and tell a place within the entry
pub record Regular (f : Profile) : Type 0 where
  pub long : (v : ℕ) → length (widths_for f v) ≡ f.pieces
  pub local : (entry more : List ℕ) → length entry ≡ f.pieces → f.rules (entry ++ more) ≡ f.rules entry
  pub only : (list : List ℕ) → (f.rules list ≡ none) ⊎ ((f.rules list).number ≡ 4)
  pub within : (list : List ℕ) → (f.rules list).place < total (widths_for f (get_or list 0 0))
