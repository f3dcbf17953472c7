-- `trace_files::answer::wrong_line` meets its contract.
use Rattle.lines.specs.Words.{words}
use Rattle.trace_files.proofs.AnswerLaws.{wrong-written}
use Rattle.trace_files.proofs.answer.wrong_line.Goals as goal

pub returns : goal.returns
unfolding words
returns c =
    let a = c.args in
    simp (
      c.with_words-3.ensures,
      c.with_mode.ensures,
      c.with_words-2.ensures,
      c.with_mode-told.ensures,
      c.with_which.ensures,
      c.with_number-head.ensures,
      c.with_words.ensures,
      c.empty.ensures,
    )
    (wrong-written a.number a.which a.due a.found)
