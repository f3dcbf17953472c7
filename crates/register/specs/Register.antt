-- The register of 24 rows, and its searches: for a loco and a ticket together, for a loco, for an empty row.
use mathlib.Core.{Bool.Bool, Bool.true, Bool.◌&&◌, List.List}
use Rattle.std.specs.Prelude.{ℕ, ◌+◌, ◌*◌, Option, None, Some}
use Rattle.kinds.specs.{declared.Loco.Loco, declared.Ticket.Ticket, Found.first, Kinds.same_loco, Kinds.same_ticket}
use Rattle.trains.specs.{declared.record.Train.Train, Sought.row_count, Sought.is_sought, declared.sought.Sought.Sought}
use Rattle.rows.specs.Row.{row_bytes, row_at}

-- row i, 0 to 23, of the register that starts at a byte
abbrev pub row_of : List ℕ → ℕ → ℕ → Train
row_of s at i = row_at s (at + row_bytes * i)

-- a ticket is the one asked for, where one is
unfoldable pub is_asked : Option Ticket → Ticket → Bool
is_asked None ticket = true
is_asked (Some asked) ticket = same_ticket ticket asked

-- row i has a loco number, and a ticket where one is asked for
unfoldable pub row_holds : List ℕ → ℕ → Loco → Option Ticket → ℕ → Bool
row_holds s at loco asked i = same_loco (row_of s at i).loco loco && is_asked asked (row_of s at i).ticket

-- the first such row
unfoldable pub searched : List ℕ → ℕ → Loco → Option Ticket → Option ℕ
searched s at loco asked = first (row_holds s at loco asked) 0 row_count

-- row i of the register holds what is sought
unfoldable pub sought_at : List ℕ → ℕ → Sought → ℕ → Bool
sought_at s at sought i = is_sought sought (row_of s at i)

-- the first row of the register that holds what is sought
unfoldable pub found_in : List ℕ → ℕ → Sought → Option ℕ
found_in s at sought = first (sought_at s at sought) 0 row_count
