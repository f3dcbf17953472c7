-- The latest entry undone in the bytes, and a step back by so many. The ticket counter stays.
use mathlib.Core.{Bool.cond, List.List}
use Rattle.std.specs.Prelude.{ℕ, zero, suc, ◌-◌}
use Rattle.replay.specs.Demand3.{depth}
use Rattle.ring.specs.Ring.{before}
use Rattle.store.specs.{Layout.is_session, Layout.entry_offset, Stands.counter_of, Stands.kept_of, Stands.head_of}
use Rattle.entries.specs.Undone.{entry_back}
use Rattle.ledger.specs.Log.{headed}

-- the latest entry undone: one fewer is kept
unfoldable pub stepped : List ℕ → List ℕ
stepped bs =
    headed (entry_back bs (entry_offset (before depth (head_of bs)))) (counter_of bs) (kept_of bs - 1) (before depth (head_of bs))

-- k entries undone, the latest first
unfoldable pub stepped_by : ℕ → List ℕ → List ℕ
stepped_by zero bs = bs
stepped_by (suc k) bs = stepped_by k (stepped bs)

-- and where the lent bytes are no session, as they were
unfoldable pub stepped_in : ℕ → List ℕ → List ℕ
stepped_in k bs = cond (is_session bs) (stepped_by k bs) bs
