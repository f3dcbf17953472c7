-- `trains::orders::place_under` meets its contract.
use Rattle.std.specs.Prelude.{◌≡◌, ◌-◌}
use Rattle.kinds.specs.Found.{first}
use Rattle.trains.specs.Record.{order_count}
use Rattle.trains.specs.Orders.{stands_under, place_under}
use Rattle.trains.proofs.orders.place_under.Given as goal

abbrev pub invariant-loop-i : goal.invariant-loop-i
invariant-loop-i l = place_under l.held l.other ≡ first (stands_under l.held l.other) l.i (order_count - l.i)
