-- `rows::row::track_at` meets its contract.
use Rattle.numbers.specs.Pieces.{unpack}
use Rattle.rows.specs.Parts.{position_of, optional_of}
use Rattle.rows.proofs.row.track_at.Goals as goal

pub returns : goal.returns
unfolding unpack position_of optional_of
returns c = λ k. record {
  position = c.position_at.ensures k;
  granted = c.optional_at.ensures k;
  danger = c.optional_at-2.ensures k;
}
