-- `rows::row::orders_at` meets its contract.
use mathlib.Core.List.{[], ◌∷◌}
use Rattle.numbers.specs.Pieces.{unpack}
use Rattle.rows.specs.Parts.{optional_of}
use Rattle.rows.proofs.row.orders_at.Goals as goal

pub returns : goal.returns
unfolding unpack optional_of
returns c = λ k. c.order_at.ensures k ∷ c.order_at-2.ensures k ∷ c.order_at-3.ensures k ∷ c.order_at-4.ensures k ∷ []
