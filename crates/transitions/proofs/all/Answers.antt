-- `transitions::all` meets its contract: the array is the table, transition for transition.
use mathlib.Core.Path.{refl}
use Rattle.transitions.specs.Table.{table}
use Rattle.transitions.specs.Held.{table_bytes}
use Rattle.transitions.proofs.all.Goals as goal

pub returns : goal.returns
unfolding table_bytes table
returns c = refl
