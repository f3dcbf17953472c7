-- A row copied from one offset to another.
use mathlib.Core.{Bool.cond, List.List}
use Rattle.std.specs.Prelude.{ℕ}
use lib.{Dec.ltb, ListN.take, ListN.drop, Seq.sets}
use Rattle.rows.specs.Row.{row_bytes}
use Rattle.trains.specs.Sought.{row_count}

-- the bytes with as many as a row has copied from one offset to another
unfoldable pub copied : List ℕ → ℕ → ℕ → List ℕ
copied bs from to = sets bs to (take row_bytes (drop from bs))

-- row i copied, where i is the number of one of the register's rows
unfoldable pub row_copied : List ℕ → ℕ → ℕ → ℕ → List ℕ
row_copied bs i from to = cond (ltb i row_count) (copied bs from to) bs
