-- What a sub-packet's header says, and the refusal that a stretch of bytes gets.
use Rattle.std.specs.Prelude.{ℕ, List}
use lib.{ListN.length, ListN.take, Dec.ltb}
use Rattle.numbers.specs.Fields.{field}
use Rattle.framing.specs.Refusals.{type_at, length_at, too_short, wrong_type, length_too_small, cut_off, refuse, or_else, unless_refused}
use Rattle.framing.specs.Refusals.{Refusal}

-- the type, the first 4 bits
abbrev pub type_of : List ℕ → ℕ
type_of s = field s type_at 4

-- the length in bytes of the whole sub-packet, header and padding included, the next 7
abbrev pub length_of : List ℕ → ℕ
length_of s = field s length_at 7

-- the header rules in their order, where the types from low to high are taken
unfoldable pub head_refusal : List ℕ → ℕ → ℕ → Refusal
head_refusal s low high =
    or_else (refuse (ltb (length s) 2) too_short)
    (or_else (refuse (ltb (type_of s) low) wrong_type)
    (or_else (refuse (ltb high (type_of s)) wrong_type)
    (or_else (refuse (ltb (length_of s) 2) length_too_small) (refuse (ltb (length s) (length_of s)) cut_off))))

abbrev pub last_type : ℕ  -- types 0 to 7 exist
last_type = 7

-- the refusal of the first sub-packet of s
abbrev pub frame_refusal : List ℕ → Refusal
frame_refusal s = head_refusal s 0 last_type

-- the first sub-packet of s, header included; nothing on a refusal
abbrev pub frame_of : List ℕ → List ℕ
frame_of s = take (unless_refused (frame_refusal s).number (length_of s) 0) s
