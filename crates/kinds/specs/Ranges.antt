-- The range rules that operations ask for, and the number that stands for no location.
use Rattle.std.specs.Prelude.{Bool, cond, ◌&&◌, ◌||◌, ℕ, eqb, leb, Option, None, Some}

abbrev pub last_location : ℕ  -- the highest location, in metres
last_location = 524287

abbrev pub grid_count : ℕ  -- there are four grids
grid_count = 4

abbrev pub none : ℕ  -- what a boundary carries for no authority, or no danger location
none = 4294967295

-- 1 to a last number
unfoldable pub one_to : ℕ → ℕ → Bool
one_to last n = leb 1 n && leb n last

-- locations are 0 to 524,287
abbrev pub is_location : ℕ → Bool
is_location x = leb x last_location

-- front and rear of a position: locations, and the rear not above the front
unfoldable pub is_position : ℕ → ℕ → Bool
is_position front rear = is_location front && leb rear front

-- grids are 1 to 4
abbrev pub is_grid : ℕ → Bool
is_grid grid = one_to grid_count grid

-- what may stand for an authority's end or a danger location
unfoldable pub is_none_or_location : ℕ → Bool
is_none_or_location number = eqb number none || is_location number

-- the location that a number at a boundary stands for
unfoldable pub location_from : ℕ → Option ℕ
location_from number = cond (eqb number none) None (Some number)
