-- The form of a record: the mark, the kind, the payload's length and the payload. What follows a record
-- is not read.
use mathlib.Core.{Bool.Bool, Bool.◌&&◌, List.List}
use Rattle.std.specs.Prelude.{ℕ, ◌+◌}
use lib.{Dec.eqb, Dec.leb, Dec.ltb, ListN.length, ListN.take, ListN.drop}
use Rattle.numbers.specs.Numbers.{number_at}
use Rattle.mark_bytes.specs.Mark.{is_marked}
use Rattle.replay.specs.Demand3.{Call}
use Rattle.rules.specs.Rules.{Op}
use Rattle.records.specs.Kinds.{payload_length, call_by}

abbrev pub head_bytes : ℕ  -- the bytes before the payload
head_bytes = 4

abbrev pub longest : ℕ  -- the bytes of the longest record
longest = 101

abbrev pub most_records : ℕ  -- a recording has at most so many records
most_records = 4294967295

-- the number of the kind, behind the mark
abbrev pub kind_of : List ℕ → ℕ
kind_of held = number_at 1 held 2

-- the length of the payload, as the record says it
abbrev pub said_length : List ℕ → ℕ
said_length held = number_at 1 held 3

-- the length of a whole record of this kind
unfoldable pub record_length : List ℕ → ℕ
record_length held = head_bytes + payload_length (kind_of held)

-- the bytes begin with a whole record: the mark, a kind, that kind's length, and every byte is there
unfoldable pub is_record : List ℕ → Bool
is_record held =
    is_marked held
    && ltb 0 (payload_length (kind_of held))
    && eqb (said_length held) (payload_length (kind_of held))
    && leb (record_length held) (length held)

-- and a record that is run, where so many records came before
unfoldable pub is_run : List ℕ → ℕ → Bool
is_run held before = ltb before most_records && is_record held

-- its payload
unfoldable pub payload_of : List ℕ → List ℕ
payload_of held = take (payload_length (kind_of held)) (drop head_bytes held)

-- THE CALL that a whole record makes
unfoldable pub call_of : List ℕ → Call Op
call_of held = call_by (kind_of held) (payload_of held)
