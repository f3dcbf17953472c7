-- `trace_files::answer::yes_line` meets its contract.
use Rattle.lines.specs.Words.{words}
use Rattle.trace_files.proofs.AnswerLaws.{yes-written}
use Rattle.trace_files.proofs.answer.yes_line.Goals as goal

pub returns : goal.returns
unfolding words
returns c = simp (c.with_words-2.ensures, c.with_number.ensures, c.with_words.ensures, c.empty.ensures) (yes-written c.args.entries)
