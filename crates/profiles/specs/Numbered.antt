-- An entry of a profile as one number.
use Rattle.std.specs.Prelude.{◌≡◌, ℕ, List, get_or}
use Rattle.numbers.specs.{Fields.put, Pieces.total, Pieces.pack}
use Rattle.profiles.specs.Profiles.{Profile, widths_for}
use Rattle.profiles.specs.Promised.{AreBytes}

-- a number that is an entry's pieces, one behind the other, where it is put as one field of as many bits
abbrev pub IsNumberOf : Profile → List ℕ → ℕ → Type 0
IsNumberOf f entry x = (o : List ℕ) (p : ℕ) → AreBytes o → put o p (total (widths_for f (get_or entry 0 0))) x ≡ pack o p (widths_for f (get_or entry 0 0)) entry
