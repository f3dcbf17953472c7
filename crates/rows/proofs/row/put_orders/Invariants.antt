-- `rows::row::put_orders` meets its contract: what is left, put, is the whole.
use mathlib.Core.Path.{◌≡◌}
use Prim.Native.Nat.{◌+◌, ◌-◌, ◌*◌}
use Rattle.numbers.specs.Pieces.{pack}
use Rattle.trains.specs.Record.{order_count}
use Rattle.rows.specs.Parts.{bits, orders_sizes, orders_values}
use Rattle.rows.specs.Row.{orders_start}
use Rattle.rows.proofs.RowLaws.{sizes_left, values_left}
use Rattle.rows.proofs.row.put_orders.Given as goal

abbrev pub invariant-loop-k : goal.invariant-loop-k
invariant-loop-k l =
    pack l.initial.out (8 * orders_start) (bits orders_sizes) (orders_values l.held)
    ≡ pack l.out (8 * (orders_start + 9 * l.k)) (bits (sizes_left (order_count - l.k))) (values_left l.held l.k (order_count - l.k))
