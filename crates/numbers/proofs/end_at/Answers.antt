-- `numbers::end_at` meets its contract.
use mathlib.Core.Path.{◌∙◌}
use Rattle.numbers.proofs.BytesLaws.{number_of_8}
use Rattle.numbers.proofs.end_at.Goals as goal

pub returns : goal.returns
returns c =
    let a = c.args in
    c.from_be_bytes.ensures ∙ number_of_8 a.s.now c.eight_at.result a.i (λ k. (c.type_inv.s k).fits) c.eight_at.ensures
