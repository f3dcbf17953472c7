-- `rows::row::position_at` meets its contract.
use Rattle.std.specs.Prelude.{Some}
use mathlib.Core.Path.{sym, ◌∙◌}
use borrow.Author.Tests.{eq-eqb, ne_eqb}
use Rattle.numbers.specs.Pieces.{unpack}
use Rattle.rows.specs.Parts.{position_of}
use Rattle.rows.proofs.row.position_at.Goals as goal

pub returns-then-byte_at-eq0 : goal.returns-then-byte_at-eq0
unfolding unpack position_of
returns-then-byte_at-eq0 c = simp (eq-eqb _ _ (sym c.byte_at.ensures ∙ c.if-byte_at-eq0.true))

pub returns : goal.returns
unfolding unpack position_of
returns c =
    (λ k. Some (record { front = c.word_at.ensures k; rear = c.word_at-2.ensures k }))
    ∙ simp (ne_eqb _ _ (λ e. c.if-byte_at-eq0.false (c.byte_at.ensures ∙ e)))
