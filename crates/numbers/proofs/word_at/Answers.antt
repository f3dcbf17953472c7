-- `numbers::word_at` meets its contract: its bytes are all there, or `word_end` says them.
use mathlib.Core.Path.{◌∙◌}
use Rattle.numbers.proofs.BytesLaws.{number_of_4}
use Rattle.numbers.proofs.word_at.Goals as goal

pub returns-in-Some : goal.returns-in-Some
returns-in-Some c =
    let a = c.args in
    c.from_be_bytes.ensures ∙ number_of_4 a.s.now c.in-Some.bytes.now a.i (λ k. (c.type_inv.s k).fits) c.in-Some.ensures
