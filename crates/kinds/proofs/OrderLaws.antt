-- The order that tickets are compared by is that of the definitions.
use mathlib.Core.Path.{◌≡◌}
use Prim.Native.Nat.{ℕ}
use native.Mathlib.Omega.{arith}
use Rattle.std.specs.Ordering.{is_gt, nat_cmp}
use Rattle.std.proofs.lemmas.Grind.{common_steps}
use Rattle.kinds.specs.declared.Ticket.{Ticket}
use Rattle.kinds.specs.Kinds.{is_above}

pub above_by_order : (a b : Ticket) → is_gt (nat_cmp a.0 b.0) ≡ is_above a b
above_by_order a b = grind (arith, common_steps)
