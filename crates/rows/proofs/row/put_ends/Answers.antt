-- `rows::row::put_ends` meets its contract.
use mathlib.Core.Path.{ap, ◌∙◌}
use Prim.Native.Nat.{ℕ}
use mathlib.Core.List.{List}
use Rattle.numbers.specs.Numbers.{put_number}
use Rattle.numbers.specs.Pieces.{pack}
use Rattle.rows.proofs.row.put_ends.Goals as goal

pub returns : goal.returns
unfolding pack
returns c = c.put_word.ensures ∙ ap (λ (l : List ℕ). put_number 4 l 17 c.args.rear) c.put_flagged.ensures
