-- An entry undone in the bytes.
use mathlib.Core.{Bool.cond, List.List}
use Rattle.std.specs.Prelude.{ℕ, ◌+◌}
use Rattle.numbers.specs.Numbers.{number_at}
use Rattle.store.specs.Layout.{row_offset, changed_at, also_at}
use Rattle.entries.specs.{Copied.row_copied, Entry.has_entry, Entry.run_at, Marks.run_marked}

-- the run of the entry that starts at a byte marked as it was
unfoldable pub run_back : List ℕ → ℕ → List ℕ
run_back bs at = run_marked bs (run_at bs at)

-- the row that is kept from a byte on put back; a number that is none of the register's restores nothing
unfoldable pub row_back : List ℕ → ℕ → List ℕ
row_back bs at = row_copied bs (number_at 1 bs at) (at + 1) (row_offset (number_at 1 bs at))

-- the entry that starts at a byte undone: its run, and its rows
unfoldable pub entry_back : List ℕ → ℕ → List ℕ
entry_back bs at = row_back (row_back (run_back bs at) (changed_at at)) (also_at at)

-- and where the bytes have no entry there, as they were
unfoldable pub undone_in : List ℕ → ℕ → List ℕ
undone_in bs at = cond (has_entry bs at) (entry_back bs at) bs
