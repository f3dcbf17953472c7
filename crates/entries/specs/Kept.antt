-- What undoes an effect, kept in the bytes before the effect is put.
use mathlib.Core.{Bool.Bool, Bool.cond, Bool.◌&&◌, List.List}
use Rattle.std.specs.Prelude.{ℕ, ◌+◌, leb, ltb}
use Rattle.numbers.specs.Numbers.{put_number}
use Rattle.rules.specs.{Effect.mark_for, Effect.turned, declared.effect.Effect.Effect, declared.effect.Run.Run}
use Rattle.store.specs.Layout.{row_offset, slots_at, mark_at, changed_at, also_at}
use Rattle.trains.specs.Sought.{row_count}
use Rattle.entries.specs.{Copied.row_copied, Entry.has_entry}

-- ---- effects that an entry can undo

-- an entry can keep what undoes an effect: one row changes, and another or none, and the run's start and slots are bytes
abbrev pub in_bounds : Effect → Bool
in_bounds e = ((ltb e.changed.row row_count && leb e.also.row row_count) && ltb e.run.start.0 256) && ltb e.run.slots 256

-- ---- the entry kept

-- a run and its mark kept in the entry that starts at a byte
unfoldable pub run_kept : List ℕ → Run → ℕ → List ℕ
run_kept bs run at =
    put_number 1 (put_number 1 (put_number 1 bs at run.start.0) (slots_at at) run.slots) (mark_at at) (mark_for run.taken)

-- a row's number kept from a byte on, and behind it the row; of no row only the number
unfoldable pub row_kept : List ℕ → ℕ → ℕ → List ℕ
row_kept bs i at = row_copied (put_number 1 bs at i) i (row_offset i) (at + 1)

-- what undoes an effect: its run marked the other way, and the rows that it changes as they are
unfoldable pub entry_kept : List ℕ → Effect → ℕ → List ℕ
entry_kept bs e at = row_kept (row_kept (run_kept bs (turned e.run) at) e.changed.row (changed_at at)) e.also.row (also_at at)

-- and where it cannot be kept, the bytes as they were
unfoldable pub kept_in : List ℕ → Effect → ℕ → List ℕ
kept_in bs e at = cond (has_entry bs at && in_bounds e) (entry_kept bs e at) bs
