-- `store::view::train` meets its contract.
use mathlib.Core.Path.{sym, ap, ◌∙◌}
use Prim.Native.Nat.{ℕ}
use Rattle.rows.specs.Row.{row_at}
use Rattle.store.proofs.ViewLaws.{view-row, view_row_past}
use Rattle.store.proofs.view.train.Goals as goal

pub returns-then-i-lt-ROWS : goal.returns-then-i-lt-ROWS
returns-then-i-lt-ROWS c =
    let a = c.args in
    c.row_at.ensures
    ∙ ap (λ (p : ℕ). row_at a.s.now p) c.row_offset.ensures
    ∙ sym (view-row a.s.now a.i c.if-i-lt-ROWS.true)

pub returns-else-i-lt-ROWS : goal.returns-else-i-lt-ROWS
returns-else-i-lt-ROWS c = c.blank.ensures ∙ sym (view_row_past c.args.s.now c.args.i c.if-i-lt-ROWS.false)
