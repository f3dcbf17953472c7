-- What the place of a refused read tells of the entries, said by itself: which of them is the first that the rules refuse, and where it stands.
use Rattle.std.specs.Prelude.{◌≡◌, List, ℕ, ◌+◌, ◌<◌}
use Rattle.numbers.specs.{Fields.field, Pieces.total, Pieces.unpack}
use Rattle.framing.specs.Refusals.{Refusal}
use Rattle.profiles.specs.Profiles.{Profile, widths_for, widths_at}

-- where entry i starts, behind those before it; entries are counted from 0, and the first of them starts at bit p
abbrev pub entry_at : Profile → List ℕ → ℕ → ℕ → ℕ
entry_at f s p i = p + total (widths_at f s p i)

-- the bytes outside of an entry that starts at bit p
abbrev pub entry_of : Profile → List ℕ → ℕ → List ℕ
entry_of f s p = unpack s p (widths_for f (field s p f.first))

-- the refusal of entry i
abbrev pub ruled_at : Profile → List ℕ → ℕ → ℕ → Refusal
ruled_at f s p i = f.rules (entry_of f s (entry_at f s p i))

-- of n entries, the first of which starts at bit p: the place is q, of an entry that the rules refuse, and those before it they do not
pub record FirstRefused (f : Profile) (s : List ℕ) (p n q : ℕ) : Type 0 where
  pub entry : ℕ
  pub there : entry < n
  pub place : q ≡ entry_at f s p entry + (ruled_at f s p entry).place
  pub refused : (ruled_at f s p entry).number ≡ 4
  pub before : (i : ℕ) → i < entry → (ruled_at f s p i).number ≡ 0
