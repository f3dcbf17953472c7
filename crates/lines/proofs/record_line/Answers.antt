-- `lines::record_line` meets its contract.
use borrow.Author.Rules.{rules}
use Rattle.lines.proofs.TextLaws.{record_written}
use Rattle.lines.proofs.record_line.Goals as goal

pub returns : goal.returns
returns c =
    let a = c.args in
    simp (
      c.with_byte.ensures,
      c.with_next-5.ensures,
      c.with_next-4.ensures,
      c.with_next-3.ensures,
      c.with_next-2.ensures,
      c.with_next.ensures,
      c.with_number.ensures,
      c.empty.ensures,
      c.from-5.ensures,
      c.from-4.ensures,
      c.from-3.ensures,
      c.from-2.ensures,
      c.from.ensures,
    )
    (record_written a.number a.kind a.answer a.first a.second a.third (search rules) (search rules) (search rules)
    (search rules) (search rules) (search rules))
