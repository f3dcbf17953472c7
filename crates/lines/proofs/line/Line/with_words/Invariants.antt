-- `lines::line::Line::with_words` meets its contract. The invariant: with the words that are left the line is that with all words.
use mathlib.Core.Path.{◌≡◌}
use lib.ListN.{drop}
use Rattle.lines.specs.Line.{with_text}
use Rattle.lines.proofs.line.Line.with_words.Given as goal

abbrev pub invariant-loop-b : goal.invariant-loop-b
invariant-loop-b l = with_text l.line (drop l.b-index l.words) ≡ with_text l.fn.self l.words
