-- AN EFFECT TAKEN INTO THE BYTES, the one way in which an accepted operation changes a session: what undoes it is pushed, the counter set, the
-- slots marked and the rows put.
use mathlib.Core.{Bool.Bool, Bool.cond, Bool.◌&&◌, List.List}
use Rattle.std.specs.Prelude.{ℕ, suc, min, ltb}
use Rattle.replay.specs.Demand3.{depth}
use Rattle.ring.specs.Ring.{after}
use Rattle.rows.specs.Row.{put_row}
use Rattle.rules.specs.{declared.effect.Change.Change, declared.effect.Effect.Effect}
use Rattle.store.specs.{Layout.is_session, Layout.row_offset, Layout.entry_offset, Stands.kept_of, Stands.head_of}
use Rattle.trains.specs.Sought.{row_count}
use Rattle.kinds.specs.declared.Ticket.{Ticket}
use Rattle.entries.specs.{Kept.in_bounds, Kept.entry_kept, Marks.run_marked}
use Rattle.ledger.specs.Log.{headed}

-- ---- the entry pushed

-- what undoes an effect goes to the next notch, and the counter is set
unfoldable pub pushed : List ℕ → Ticket → Effect → List ℕ
pushed bs counter e =
    headed (entry_kept bs e (entry_offset (head_of bs))) counter (min depth (suc (kept_of bs))) (after depth (head_of bs))

-- the bytes are a session's, and an entry can keep what undoes the effect
abbrev pub can_push : List ℕ → Effect → Bool
can_push bs e = is_session bs && in_bounds e

-- and where that cannot be, the bytes as they were
unfoldable pub pushed_in : List ℕ → Ticket → Effect → List ℕ
pushed_in bs counter e = cond (can_push bs e) (pushed bs counter e) bs

-- ---- the effect put

-- a row put into the register, where its number is one of the register's
unfoldable pub change_put : List ℕ → Change → List ℕ
change_put bs c = cond (ltb c.row row_count) (put_row bs (row_offset c.row) c.train) bs

-- an effect put: its slots marked, and then its rows
unfoldable pub effect_put : List ℕ → Effect → List ℕ
effect_put bs e = change_put (change_put (run_marked bs e.run) e.changed) e.also

-- the bytes after an accepted operation: the entry is kept before anything changes
unfoldable pub settled : List ℕ → Ticket → Effect → List ℕ
settled bs counter e = effect_put (pushed bs counter e) e

-- and where the lent bytes are no session, or the effect is out of bounds, as they were
unfoldable pub settled_in : List ℕ → Ticket → Effect → List ℕ
settled_in bs counter e = cond (can_push bs e) (settled bs counter e) bs
