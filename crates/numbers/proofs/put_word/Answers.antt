-- `numbers::put_word` meets its contract.
use mathlib.Core.Path.{ap, ◌∙◌}
use lib.Seq.{sets}
use native.Mathlib.Omega.{arith}
use Rattle.numbers.proofs.BytesLaws.{stored}
use Rattle.numbers.proofs.put_word.Goals as goal

pub returns : goal.returns
returns c =
    let a = c.args in
    c.put_bytes.ensures ∙ ap (sets a.out.now a.i) c.to_be_bytes.ensures
    ∙ stored a.out.now a.i 4 a.x (λ k. grind arith)
