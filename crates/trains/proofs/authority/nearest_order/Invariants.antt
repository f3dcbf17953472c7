-- `trains::authority::nearest_order` meets its contract.
use Rattle.std.specs.Prelude.{◌≡◌, ◌-◌}
use Rattle.trains.specs.Record.{order_count}
use Rattle.trains.specs.Authority.{nearest, order_stops}
use Rattle.trains.proofs.authority.nearest_order.Given as goal

-- what is left of the orders gives the end that all of them give
abbrev pub invariant-loop-order : goal.invariant-loop-order
invariant-loop-order l =
    nearest l.end (order_stops l.order-items l.order-index (order_count - l.order-index)) ≡ nearest l.from (order_stops l.order-items 0 order_count)
