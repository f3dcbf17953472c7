-- `rows::row::put_position` meets its contract.
use Rattle.std.specs.Prelude.{Option}
use mathlib.Core.Path.{sym, ap, ◌∙◌}
use Prim.Native.Nat.{◌*◌}
use Rattle.numbers.specs.Pieces.{pack}
use Rattle.trains.specs.declared.record.Position.{Position}
use Rattle.rows.specs.Parts.{bits, position_sizes, position_values}
use Rattle.rows.specs.Row.{track_start}
use Rattle.rows.proofs.row.put_position.Goals as goal

pub returns-in-None : goal.returns-in-None
returns-in-None c =
    c.put_ends.ensures
    ∙ sym (ap (λ (x : Option Position). pack c.args.out.now (8 * track_start) (bits position_sizes) (position_values x)) c.in-None.is)

pub returns-in-Some : goal.returns-in-Some
returns-in-Some c =
    c.put_ends-in-Some.ensures
    ∙ sym (ap (λ (x : Option Position). pack c.args.out.now (8 * track_start) (bits position_sizes) (position_values x)) c.in-Some.is)
