-- `lines::line::Line::with_number` meets its contract.
use mathlib.Core.Path.{sym, ap, ◌∙◌}
use Rattle.lines.specs.Line.{with_text}
use Rattle.lines.proofs.DecimalLaws.{decimal-one, decimal-more}
use Rattle.lines.proofs.LineLaws.{text-append, text-byte}
use Rattle.lines.proofs.line.Line.+with_number.Goals as goal

pub returns-then-n-lt10 : goal.returns-then-n-lt10
returns-then-n-lt10 t c = c.with_last_digit.ensures ∙ text-byte _ _ ∙ ap (with_text _) (sym (decimal-one _ c.if-n-lt10.true))

pub returns : goal.returns
returns t c =
    let a = c.args in
    c.with_last_digit-2.ensures
    ∙ rw (c.with_number.ensures, text-byte) (sym (text-append a.self _ _))
    ∙ ap (with_text a.self) (sym (decimal-more _ c.if-n-lt10.false))
