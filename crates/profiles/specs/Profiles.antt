-- Profiles: sub-packets of type, length, count, and so many entries (radio annex: gates, turnouts). An entry is pieces one behind the other, and its
-- first piece tells which others it has. Outside a sub-packet each piece is a byte. A piece that an entry does not have is one of width 0, which reads
-- as 0 and has room for nothing else.
use Rattle.std.specs.Prelude.{ℕ, zero, suc, ◌+◌, ◌-◌, ◌*◌, ◌/◌, List, [], ◌∷◌, ◌++◌, get_or, drop}
use Rattle.numbers.specs.{Fields.field, Pieces.total}
use Rattle.framing.specs.Refusals.{count_at, none, or_else, moved_by}
use Rattle.framing.specs.Refusals.{Refusal}

pub record Profile : Type 0 where
  pub kind : ℕ  -- the type
  pub count_width : ℕ  -- the width of the count
  pub pieces : ℕ  -- the pieces of an entry, and so its bytes outside
  pub first : ℕ  -- the width of an entry's first piece
  pub others : ℕ → List ℕ  -- the widths of the others, by the value of the first
  pub rules : List ℕ → Refusal  -- what is allowed in an entry, by its bytes; the place is counted from the entry's first bit

-- the widths of an entry whose first piece has the value v
abbrev pub widths_for : Profile → ℕ → List ℕ
widths_for f v = f.first ∷ f.others v

-- the count of entries, behind type and length
abbrev pub count_of : Profile → List ℕ → ℕ
count_of f s = field s count_at f.count_width

-- the bit at which the first entry starts
abbrev pub first_at : Profile → ℕ
first_at f = count_at + f.count_width

-- the bytes that so many bits take, and the bits that fill up the last of them
abbrev pub bytes_for : ℕ → ℕ
bytes_for bits = (bits + 7) / 8

abbrev pub padding_for : ℕ → ℕ
padding_for bits = 8 * bytes_for bits - bits

-- where an entry that starts at bit p of s ends
abbrev pub end_at : Profile → List ℕ → ℕ → ℕ
end_at f s p = p + total (widths_for f (field s p f.first))

-- the widths of n entries that start at bit p of s, one behind the other
unfoldable pub widths_at : Profile → List ℕ → ℕ → ℕ → List ℕ
widths_at f s p zero = []
widths_at f s p (suc n) = widths_for f (field s p f.first) ++ widths_at f s (end_at f s p) n

-- the widths of the first n entries of a list outside
unfoldable pub widths_of : Profile → List ℕ → ℕ → List ℕ
widths_of f list zero = []
widths_of f list (suc n) = widths_for f (get_or list 0 0) ++ widths_of f (drop f.pieces list) n

-- the rules on each of the first n entries of a list outside, of which the first starts at bit p of the sub-packet
unfoldable pub rules_refusal : Profile → ℕ → List ℕ → ℕ → Refusal
rules_refusal f p list zero = none
rules_refusal f p list (suc n) =
    or_else (moved_by p (f.rules list)) (rules_refusal f (p + total (widths_for f (get_or list 0 0))) (drop f.pieces list) n)
