-- `rows::row::put_row` meets its contract: the bytes of the record's row are copied to where they go.
use mathlib.Core.Path.{ap, ◌∙◌}
use Prim.Native.Nat.{ℕ}
use mathlib.Core.List.{List}
use lib.ListN.{take, drop}
use lib.Seq.{sets}
use Rattle.rows.specs.Row.{row_bytes}
use Rattle.rows.proofs.RowLaws.{row_made, made_long, image_copied}
use Rattle.rows.proofs.row.put_row.Goals as goal

pub slice_bounds-copy-end : goal.slice_bounds-copy-end
slice_bounds-copy-end c = made_long c.args.t _ _ _ c.put_head.ensures c.put_track.ensures c.put_orders.ensures

pub returns : goal.returns
returns c =
    let a = c.args in
    c.copy.ensures
    ∙ ap (λ (l : List ℕ). sets a.out.now a.at (take row_bytes (drop 0 l)))
    (row_made a.t _ _ _ c.put_head.ensures c.put_track.ensures c.put_orders.ensures)
    ∙ image_copied a.out.now a.at a.t (λ i. (c.slice_known-1.given i).fits)
