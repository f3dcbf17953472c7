-- What is proved of every profile that the bench reads and writes, said by itself: the round trips, that a sub-packet has one reading, and that
-- nothing behind a sub-packet counts or is changed. A list of bytes that is lent is s, and o is what an output held.
use Rattle.std.specs.Prelude.{◌≡◌, List, ◌++◌, ℕ, suc, ◌*◌, ◌≤◌, ◌<◌, length, get_or, take, drop}
use Rattle.framing.specs.Refusals.{length_not_for_count}
use Rattle.framing.specs.Framing.{length_of, head_refusal}
use Rattle.profiles.specs.Profiles.{Profile, count_of, first_at}
use Rattle.profiles.specs.Reading.{entries_of, read_refusal, read_with, read_answer, read_into}
use Rattle.profiles.specs.Places.{entry_at}
use Rattle.profiles.specs.Writing.{entries_in, size_for, write_refusal, written_with, write_answer, write_into}

-- numbers that are bytes
abbrev pub AreBytes : List ℕ → Type 0
AreBytes s = (i : ℕ) → get_or s i 0 < 256

-- a read that is accepted, and a write that is
abbrev pub Reads : Profile → List ℕ → List ℕ → Type 0
Reads f s o = (read_refusal f s (length o)).number ≡ 0

abbrev pub Writes : Profile → ℕ → List ℕ → List ℕ → Type 0
Writes f most list o = (write_refusal f most list (length o)).number ≡ 0

-- the entries that a read left at the start of its output
abbrev pub read_list : Profile → List ℕ → List ℕ → List ℕ
read_list f s o = take (f.pieces * count_of f s) (read_into f s o)

pub record Promised (f : Profile) (most : ℕ) : Type 0 where
  -- THERE AND BACK: what was read is written, given room, with the same entries and bytes, and gives the sub-packet again
  pub there_and_back : (s o out : List ℕ) → AreBytes s → AreBytes out → Reads f s o → length_of s ≤ length out
      → (write_answer f most (read_list f s o) out ≡ written_with (read_answer f s o).entries (read_answer f s o).bytes)
      × (take (length_of s) (write_into f most (read_list f s o) out) ≡ take (length_of s) s)
  -- BACK AND THERE: what was written is read, given room, with the same entries and bytes, and gives the list again
  pub back_and_there : (list o out : List ℕ) → Writes f most list o → length list ≤ length out
      → (read_answer f (write_into f most list o) out ≡ read_with (write_answer f most list o).entries (write_answer f most list o).bytes)
      × (take (length list) (read_into f (write_into f most list o) out) ≡ list)
  -- ONE READING: two accepted sub-packets with the same entries are the same bytes
  pub one_reading : (s t o u : List ℕ) → AreBytes s → AreBytes t → Reads f s o → Reads f t u → entries_of f s ≡ entries_of f t
      → take (length_of s) s ≡ take (length_of t) t
  -- WHAT FOLLOWS the sub-packet is not read: neither the answer nor the output hangs on it, whether the read is accepted or refused
  pub unread : (s more o : List ℕ) → 2 ≤ length s → length_of s ≤ length s
      → (read_answer f (s ++ more) o ≡ read_answer f s o) × (read_into f (s ++ more) o ≡ read_into f s o)
  -- AN ENTRY THAT RUNS PAST the sub-packet gives 3, at the count, whatever is wrong besides in entries, padding or room
  pub runs_past : (s : List ℕ) (room i : ℕ) → (head_refusal s f.kind f.kind).number ≡ 0 → i < count_of f s
      → 8 * length_of s < entry_at f s (first_at f) (suc i) → read_refusal f s room ≡ length_not_for_count
  -- WHAT LIES BEHIND in an output stays: behind the entries that were read, and behind the sub-packet that was written
  pub behind_read : (s o : List ℕ) → Reads f s o → drop (f.pieces * count_of f s) (read_into f s o) ≡ drop (f.pieces * count_of f s) o
  pub behind_written : (list o : List ℕ) → AreBytes o → Writes f most list o
      → drop (size_for f list (entries_in f list)) (write_into f most list o) ≡ drop (size_for f list (entries_in f list)) o
