-- An entry of the log: what it keeps before an operation, how it is undone, and the entry in a session's bytes. It is itself an effect, the
-- one that undoes the operation: the run of slots with its mark before, and the rows as they were.
use mathlib.Core.{Bool.Bool, Bool.true, Bool.cond, Bool.not, Bool.◌&&◌, List.List, Path.◌≡◌}
use Rattle.std.specs.Prelude.{ℕ, ◌+◌, ◌-◌, ◌≤◌, ◌<◌, eqb, leb, ltb}
use Rattle.numbers.specs.Numbers.{number_at}
use Rattle.rows.specs.Row.{row_at}
use Rattle.rules.specs.{Effect.mark_for, Effect.turned, Effect.change, Effect.no_change, Effect.applied, View.View, View.row_in, View.mark_of}
use Rattle.rules.specs.{declared.effect.Change.Change, declared.effect.Effect.Effect, declared.effect.Run.Run}
use Rattle.store.specs.Layout.{is_session, entry_bytes, session_bytes, slots_at, mark_at, changed_at, also_at}
use Rattle.kinds.specs.{Kinds.slot_in_range, declared.Slot.Slot}
use Rattle.trains.specs.Sought.{row_count}

-- what an entry keeps: a run of slots and whether it was taken, a row as it was, and a second one where there is one
abbrev pub Entry : Type 0
Entry = Effect

-- a row as it is now
abbrev pub row_now : View → ℕ → Change
row_now v i = change i (row_in v i)

-- what is kept before an effect is taken in: the run marked the other way, and the rows
unfoldable pub saved : View → Effect → Entry
saved v e = record {
  run = turned e.run;
  changed = row_now v e.changed.row;
  also = row_now v e.also.row;
}

-- an entry undone: the run's mark and the rows as they were
abbrev pub undone : Entry → View → View
undone e v = applied v e

-- the run that an effect marks is marked the other way before, in each of its slots that is one of the book's
abbrev pub RunHolds : View → Effect → Type 0
RunHolds v e = (slot : Slot) → slot_in_range slot ≡ true → e.run.start.0 ≤ slot.0 → slot.0 < e.run.start.0 + e.run.slots
    → mark_of v.book slot ≡ mark_for (not e.run.taken)

-- ---- in the bytes

-- the bytes are a session's, and have all of the entry that starts at a byte
abbrev pub has_entry : List ℕ → ℕ → Bool
has_entry bs at = is_session bs && leb at (session_bytes - entry_bytes)

-- whether the run of the entry that starts at a byte was taken
abbrev pub taken_at : List ℕ → ℕ → Bool
taken_at bs at = not (eqb (number_at 1 bs (mark_at at)) 0)

-- the run of the entry that starts at a byte
abbrev pub run_at : List ℕ → ℕ → Run
run_at bs at = record {
  start = record { 0 = number_at 1 bs at };
  slots = number_at 1 bs (slots_at at);
  taken = taken_at bs at;
}

-- a row's number and the row, as an entry keeps them from a byte on; behind a number that is none of the register's no row is kept
unfoldable pub change_at : List ℕ → ℕ → Change
change_at bs i = cond (ltb (number_at 1 bs i) row_count) (change (number_at 1 bs i) (row_at bs (i + 1))) no_change

-- the entry that starts at a byte
unfoldable pub entry_at : List ℕ → ℕ → Entry
entry_at bs at = record {
  run = run_at bs at;
  changed = change_at bs (changed_at at);
  also = change_at bs (also_at at);
}
