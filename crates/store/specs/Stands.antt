-- What a session's bytes stand for, whatever they are: the view, which is all that the rules look at beside the ticket counter, and the numbers
-- of the header.
use Rattle.std.specs.Prelude.{List, [], ◌∷◌, ℕ, zero, suc, ◌%◌, min, take, drop}
use Rattle.numbers.specs.Numbers.{number_at}
use Rattle.replay.specs.Demand3.{depth}
use Rattle.register.specs.Register.{row_of}
use Rattle.rules.specs.View.{View}
use Rattle.kinds.specs.{Kinds.last_slot, declared.Ticket.Ticket}
use Rattle.trains.specs.{Sought.row_count, declared.record.Train.Train}
use Rattle.store.specs.Layout.{word_bytes, counter_at, kept_at, head_at, book_at, register_at}

-- n rows of the register from row i on
unfoldable pub rows_from : List ℕ → ℕ → ℕ → List Train
rows_from bs i zero = []
rows_from bs i (suc n) = row_of bs register_at i ∷ rows_from bs (suc i) n

-- the slot book
abbrev pub book_of : List ℕ → List ℕ
book_of bs = take last_slot (drop book_at bs)

-- the view in the bytes
unfoldable pub view_of : List ℕ → View
view_of bs = record { rows = rows_from bs 0 row_count; book = book_of bs }

-- the ticket counter
abbrev pub counter_of : List ℕ → Ticket
counter_of bs = record { 0 = number_at word_bytes bs counter_at }

-- the entries kept: never more than the ring has notches
abbrev pub kept_of : List ℕ → ℕ
kept_of bs = min depth (number_at word_bytes bs kept_at)

-- the notch that the next entry goes to, which is one of the ring's
abbrev pub head_of : List ℕ → ℕ
head_of bs = number_at word_bytes bs head_at % depth
