-- `trace_files::answer::with_mode` meets its contract.
use Rattle.lines.specs.Words.{words}
use Rattle.trace_files.proofs.AnswerLaws.{mode-written}
use Rattle.trace_files.proofs.answer.with_mode.Goals as goal

pub returns : goal.returns
unfolding words
returns c =
    simp (c.with_words-2.ensures, c.with_name.ensures, c.with_words.ensures, c.with_number.ensures, c.from.ensures) (mode-written c.args.line c.args.mode)
