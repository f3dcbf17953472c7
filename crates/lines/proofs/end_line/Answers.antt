-- `lines::end_line` meets its contract.
use borrow.Author.Rules.{rules}
use Rattle.lines.proofs.TextLaws.{end-written}
use Rattle.lines.proofs.end_line.Goals as goal

pub returns : goal.returns
returns c =
    let a = c.args in
    simp (
      c.with_byte.ensures,
      c.with_next-2.ensures,
      c.with_next.ensures,
      c.with_words.ensures,
      c.empty.ensures,
    )
    (end-written a.lines a.accepted (search rules) (search rules))
