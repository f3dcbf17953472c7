-- Effects that an entry can undo.
use Prim.Native.Nat.{◌≤◌, ◌<◌}
use Rattle.rules.specs.declared.effect.Effect.{Effect}
use Rattle.trains.specs.Sought.{row_count}

-- one row changes, and perhaps another; the run's start and slots are bytes
pub record InBounds (e : Effect) : Type 0 where
  pub changed : e.changed.row < row_count
  pub also : e.also.row ≤ row_count
  pub start : e.run.start.0 < 256
  pub slots : e.run.slots < 256
