-- A sub-packet of a profile begun: what is put before its entries.
use Rattle.std.specs.Prelude.{ℕ, ◌-◌, List, [], ◌∷◌}
use Rattle.numbers.specs.{Pieces.pack, Numbers.put_number}
use Rattle.profiles.specs.Profiles.{Profile}

-- an output with the header of a sub-packet of n entries put, which has so many bytes: type, length and count; the last of the bytes is cleared before
abbrev pub begun : Profile → ℕ → ℕ → List ℕ → List ℕ
begun f bytes n o = pack (put_number 1 o (bytes - 1) 0) 0 (4 ∷ 7 ∷ f.count_width ∷ []) (f.kind ∷ bytes ∷ n ∷ [])
