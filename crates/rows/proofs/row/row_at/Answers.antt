-- `rows::row::row_at` meets its contract: the record is that in a copy of the row's bytes.
use Prim.Native.Nat.{ℕ}
use mathlib.Core.List.{List}
use mathlib.Core.Path.{ap, ◌∙◌}
use Rattle.rows.specs.Row.{row_at}
use Rattle.rows.proofs.RowLaws.{row_copied_lem}
use Rattle.rows.proofs.row.row_at.Goals as goal

pub returns : goal.returns
returns c =
    let a = c.args in
    c.train_in.ensures ∙ ap (λ (l : List ℕ). row_at l 0) c.copy.ensures ∙ row_copied_lem a.bytes.now a.at
