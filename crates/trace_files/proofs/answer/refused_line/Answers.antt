-- `trace_files::answer::refused_line` meets its contract.
use Rattle.lines.specs.Words.{words}
use Rattle.trace_files.proofs.AnswerLaws.{refused-written}
use Rattle.trace_files.proofs.answer.refused_line.Goals as goal

pub returns : goal.returns
unfolding words
returns c =
    simp (
      c.with_words-3.ensures,
      c.with_number-2.ensures,
      c.with_words-2.ensures,
      c.with_number.ensures,
      c.with_words.ensures,
      c.empty.ensures,
      c.from.ensures,
    )
    (refused-written c.args.number c.args.answer)
