-- `numbers::byte_at` meets its contract.
use mathlib.Core.Path.{sym, ◌∙◌}
use Rattle.numbers.proofs.NumberLaws.{number-byte, number_past}
use Rattle.numbers.proofs.byte_at.Goals as goal

pub returns-then-i-s : goal.returns-then-i-s
returns-then-i-s c = let a = c.args in
    c.from.ensures ∙ sym (number-byte a.s.now a.i (c.type_inv.s a.i).fits)

pub returns-else-i-s : goal.returns-else-i-s
returns-else-i-s c = sym (number_past 1 _ _ c.if-i-s.false)
