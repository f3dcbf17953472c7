-- A SESSION IN ORDER: its counter and view are, each row is the bytes that putting its train gives, and each byte of the book is 0 or 1.
use Rattle.std.specs.Prelude.{List, ℕ}
use Rattle.order.specs.InOrder.{InOrder}
use Rattle.store.specs.{Tidy.Tidy, Stands.view_of, Stands.counter_of}

pub record Ordered (bs : List ℕ) : Type 0 where
  pub order : InOrder (counter_of bs) (view_of bs)
  pub tidy : Tidy bs
