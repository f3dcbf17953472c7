-- A profile read: the first sub-packet of s, into a buffer that held o.
use Rattle.std.specs.Prelude.{ℕ, ◌+◌, ◌*◌}
use mathlib.Core.{List.List, List.◌++◌, Bool.not}
use lib.{ListN.length, ListN.drop, Dec.ltb, Dec.eqb}
use Rattle.numbers.specs.{Fields.field, Pieces.total, Pieces.unpack}
use Rattle.fields.specs.FirstSet.{first_set}
use Rattle.framing.specs.Refusals.{nowhere, length_not_for_count, padding_set, no_room, refuse, or_else, unless_refused}
use Rattle.framing.specs.Framing.{length_of, head_refusal}
use Rattle.framing.specs.Refusals.{Refusal}
use Rattle.profiles.specs.Profiles.{Profile, count_of, first_at, bytes_for, padding_for, widths_at, rules_refusal}
use Rattle.profiles.specs.declared.EntriesRead.{EntriesRead}

-- the first n entries outside: a byte for each piece
abbrev pub first_entries : Profile → List ℕ → ℕ → List ℕ
first_entries f s n = unpack s (first_at f) (widths_at f s (first_at f) n)

-- those that the count says
unfoldable pub entries_of : Profile → List ℕ → List ℕ
entries_of f s = first_entries f s (count_of f s)

-- the bits of the sub-packet before its padding
unfoldable pub bits_of : Profile → List ℕ → ℕ
bits_of f s = first_at f + total (widths_at f s (first_at f) (count_of f s))

-- the length must be that of so many bits. Where an entry runs past the sub-packet, what follows stands for its bits, or 0, and the length is too
-- small whatever they are
abbrev pub length_refusal : List ℕ → ℕ → Refusal
length_refusal s bits = refuse (not (eqb (length_of s) (bytes_for bits))) length_not_for_count

-- the bits behind the entries must be zero; at fault is the first that is set
abbrev pub padding_refusal : List ℕ → ℕ → Refusal
padding_refusal s bits = refuse (ltb 0 (field s bits (padding_for bits))) (padding_set (first_set s bits (padding_for bits)))

-- the bytes outside must have room
abbrev pub room_refusal : ℕ → ℕ → Refusal
room_refusal bytes room = refuse (ltb room bytes) no_room

-- what is judged before the entries: the header, and the length
unfoldable pub shape_refusal : ℕ → List ℕ → ℕ → Refusal
shape_refusal kind s bits = or_else (head_refusal s kind kind) (length_refusal s bits)

-- and behind them: the padding, and the room
unfoldable pub end_refusal : List ℕ → ℕ → ℕ → ℕ → Refusal
end_refusal s bits bytes room = or_else (padding_refusal s bits) (room_refusal bytes room)

-- the rules of a read in their order, into room bytes
unfoldable pub read_refusal : Profile → List ℕ → ℕ → Refusal
read_refusal f s room =
    or_else (shape_refusal f.kind s (bits_of f s))
    (or_else (rules_refusal f (first_at f) (entries_of f s) (count_of f s)) (end_refusal s (bits_of f s) (f.pieces * count_of f s) room))

-- the answer where nothing refuses: the entries, and the bytes of the sub-packet
abbrev pub read_with : ℕ → ℕ → EntriesRead
read_with entries bytes = record { answer = 0; place = nowhere; entries = entries; bytes = bytes }

-- and of a refusal: its number and its place, no entries and zero bytes
abbrev pub refused_for : Refusal → EntriesRead
refused_for r = record { answer = r.number; place = r.place; entries = 0; bytes = 0 }

-- the answer
unfoldable pub read_answer : Profile → List ℕ → List ℕ → EntriesRead
read_answer f s o = unless_refused (read_refusal f s (length o)).number (read_with (count_of f s) (length_of s)) (refused_for (read_refusal f s (length o)))

-- the buffer afterwards: the entries, and behind them what it held; a refusal changes nothing
unfoldable pub read_into : Profile → List ℕ → List ℕ → List ℕ
read_into f s o = unless_refused (read_refusal f s (length o)).number (entries_of f s ++ drop (f.pieces * count_of f s) o) o
