-- `rows::row::put_track` meets its contract.
use mathlib.Core.Path.{◌∙◌}
use Prim.Native.Nat.{◌*◌}
use Rattle.numbers.specs.Pieces.{pack}
use Rattle.rows.specs.Parts.{bits, flagged_sizes, optional_values}
use Rattle.rows.proofs.row.put_track.Goals as goal

pub returns : goal.returns
unfolding pack
returns c =
    let k = c.args.track in
    c.put_optional-2.ensures
    ∙ (λ i. pack ((c.put_optional.ensures ∙ (λ j. pack (c.put_position.ensures j) (8 * 21) (bits flagged_sizes) (optional_values k.granted))) i)
    (8 * 26) (bits flagged_sizes) (optional_values k.danger))
