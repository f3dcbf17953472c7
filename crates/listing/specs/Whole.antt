-- A recording lent whole, and the answer of listing it into an output.
use mathlib.Core.{Bool.cond, List.List, Path.◌≡◌}
use Rattle.std.specs.Prelude.{ℕ, ◌+◌, ◌≤◌, Result, Ok, Err}
use lib.{Dec.leb, ListN.length}
use Rattle.listing.specs.Listing.{listing}
use Rattle.listing.specs.declared.whole.Refused.{Refused}
use Rattle.listing.specs.declared.whole.Refused.TheVariants.{OutputTooSmall}
use Rattle.turns.specs.Placing.{put_at}

abbrev pub output_too_small : ℕ  -- THE GROUND of the only refusal: the output is too small for the listing
output_too_small = 1

-- the number of each ground
unfoldable pub number_of : Refused → ℕ
number_of OutputTooSmall = output_too_small

-- the bytes of the listing, for an output of so many bytes, or why there is none
unfoldable pub listed_into : ℕ → List ℕ → Result ℕ Refused
listed_into room input = cond (leb (length (listing input)) room) (Ok (length (listing input))) (Err OutputTooSmall)

-- a text is put from an offset on, where all of it fits, and the offset of its end is told
abbrev pub IsPutFrom : List ℕ → ℕ → List ℕ → List ℕ → ℕ → Type 0
IsPutFrom text from before after end =
    (end ≡ from + length text) × (from + length text ≤ length before → after ≡ put_at before from text)
