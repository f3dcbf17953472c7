-- `rows::row::optional_at` meets its contract.
use Rattle.std.specs.Prelude.{Some}
use mathlib.Core.Path.{sym, ◌∙◌}
use Prim.Native.Nat.{◌+◌, ◌*◌}
use native.Mathlib.Omega.{arith}
use borrow.Author.Tests.{eq-eqb, ne_eqb}
use Rattle.numbers.specs.Pieces.{unpack}
use Rattle.rows.specs.Parts.{optional_of}
use Rattle.rows.proofs.Bytewise.{at_bit}
use Rattle.rows.proofs.row.optional_at.Goals as goal

pub returns-then-byte_at-eq0 : goal.returns-then-byte_at-eq0
unfolding unpack optional_of
returns-then-byte_at-eq0 c = simp (eq-eqb _ _ (sym c.byte_at.ensures ∙ c.if-byte_at-eq0.true))

pub returns : goal.returns
unfolding unpack optional_of
returns c =
    let a = c.args in
    let x = c.word_at.ensures ∙ at_bit 4 a.s.now (a.i + 1) (8 * a.i + 8) (omega arith) in
    (λ k. Some (x k)) ∙ simp (ne_eqb _ _ (λ e. c.if-byte_at-eq0.false (c.byte_at.ensures ∙ e)))
