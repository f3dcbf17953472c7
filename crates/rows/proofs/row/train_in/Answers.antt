-- `rows::row::train_in` meets its contract.
use mathlib.Core.Path.{sym, ◌∙◌}
use Rattle.rows.proofs.RowLaws.{row_parts}
use Rattle.rows.proofs.row.train_in.Goals as goal

pub returns : goal.returns
returns c =
    (λ k. record {
      loco = record { 0 = c.word_at.ensures k };
      ticket = record { 0 = c.word_at-2.ensures k };
      start = record { 0 = c.byte_at.ensures k };
      slots = c.byte_at-2.ensures k;
      mode = c.byte_at-3.ensures k;
      left = c.byte_at-4.ensures k;
      track = c.track_at.ensures k;
      orders = c.orders_at.ensures k;
    })
    ∙ sym (row_parts c.args.row.now 0)
