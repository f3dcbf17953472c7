-- A profile written: `list` is the entries outside, `most` the most that are written, and o what the output held.
use Rattle.std.specs.Prelude.{ℕ, zero, suc, ◌+◌, ◌/◌, ◌%◌, ◌^◌, List, [], ◌∷◌, ◌++◌}
use lib.{ListN.length, ListN.get_or, ListN.drop, Dec.ltb, Dec.leb}
use Rattle.numbers.specs.Pieces.{total, pack}
use Rattle.framing.specs.Refusals.{none, not_whole_entries, too_many_entries, too_wide, no_room, refuse, or_else, unless_refused, untold}
use Rattle.framing.specs.Refusals.{Refusal}
use Rattle.profiles.specs.Profiles.{Profile, first_at, bytes_for, padding_for, widths_for, widths_of}
use Rattle.profiles.specs.declared.EntriesWritten.{EntriesWritten}

-- the entries of a list
abbrev pub entries_in : Profile → List ℕ → ℕ
entries_in f list = length list / f.pieces

-- the bits of a sub-packet of the first n entries of a list, before its padding; and its bytes
abbrev pub bits_for : Profile → List ℕ → ℕ → ℕ
bits_for f list n = first_at f + total (widths_of f list n)

abbrev pub size_for : Profile → List ℕ → ℕ → ℕ
size_for f list n = bytes_for (bits_for f list n)

-- the widths of the whole sub-packet: type, length, count, the entries, and the padding
unfoldable pub packet_widths : Profile → List ℕ → ℕ → List ℕ
packet_widths f list n = 4 ∷ 7 ∷ f.count_width ∷ (widths_of f list n ++ (padding_for (bits_for f list n) ∷ []))

-- and its values
unfoldable pub packet_values : Profile → List ℕ → ℕ → List ℕ
packet_values f list n = f.kind ∷ size_for f list n ∷ n ∷ (list ++ (0 ∷ []))

-- the output with the sub-packet written from its start; what lies behind the sub-packet stays
unfoldable pub written : Profile → List ℕ → List ℕ → List ℕ
written f list o = pack o 0 (packet_widths f list (entries_in f list)) (packet_values f list (entries_in f list))

-- no byte has more digits than its piece is wide
unfoldable pub widths_refusal : List ℕ → List ℕ → Refusal
widths_refusal [] list = none
widths_refusal (w ∷ ws) list = or_else (refuse (leb (2 ^ w) (get_or list 0 0)) too_wide) (widths_refusal ws (drop 1 list))

-- the refusal of the entry that a list starts with, the place untold: it stands in no sub-packet yet
unfoldable pub entry_refusal : Profile → List ℕ → Refusal
entry_refusal f list = or_else (widths_refusal (widths_for f (get_or list 0 0)) list) (untold (f.rules list))

-- the first refusal of its first n entries
unfoldable pub list_refusal : Profile → List ℕ → ℕ → Refusal
list_refusal f list zero = none
list_refusal f list (suc n) = or_else (entry_refusal f list) (list_refusal f (drop f.pieces list) n)

-- the rules of a write in their order, at most `most` entries into room bytes
unfoldable pub write_refusal : Profile → ℕ → List ℕ → ℕ → Refusal
write_refusal f most list room =
    or_else (refuse (ltb 0 (length list % f.pieces)) not_whole_entries)
    (or_else (refuse (ltb most (entries_in f list)) too_many_entries)
    (or_else (list_refusal f list (entries_in f list)) (refuse (ltb room (size_for f list (entries_in f list))) no_room)))

-- the answer where nothing refuses: the entries, and the bytes written
abbrev pub written_with : ℕ → ℕ → EntriesWritten
written_with entries bytes = record { answer = 0; entries = entries; bytes = bytes }

-- and of a refusal: its number, no entries and zero bytes
abbrev pub not_written : Refusal → EntriesWritten
not_written r = record { answer = r.number; entries = 0; bytes = 0 }

-- the answer
unfoldable pub write_answer : Profile → ℕ → List ℕ → List ℕ → EntriesWritten
write_answer f most list o =
    unless_refused (write_refusal f most list (length o)).number (written_with (entries_in f list) (size_for f list (entries_in f list)))
    (not_written (write_refusal f most list (length o)))

-- the output afterwards; a refusal changes nothing
unfoldable pub write_into : Profile → ℕ → List ℕ → List ℕ → List ℕ
write_into f most list o = unless_refused (write_refusal f most list (length o)).number (written f list o) o
