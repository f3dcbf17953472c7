-- `lines::line::Line::with_words` meets its contract.
use mathlib.Core.Path.{refl, sym, ap, ◌∙◌}
use Prim.Native.Nat.{◌+◌}
use native.Mathlib.Omega.{arith}
use lib.ListN.{drop}
use Rattle.lines.specs.declared.line.Line.{Line}
use Rattle.lines.specs.Line.{with_text}
use Rattle.lines.proofs.LineLaws.{text-next, text-end}
use Rattle.lines.proofs.line.Line.with_words.Goals as goal

pub loop-b-init : goal.loop-b-init
loop-b-init c = refl

pub loop-b-preserved : goal.loop-b-preserved
loop-b-preserved c =
    let words = c.args.words.now in
    let i = c.loop-b.b-index in
    ap (λ (l : Line). with_text l (drop (i + 1) words)) c.with_byte-line.ensures
    ∙ sym (text-next _ words i (omega arith))
    ∙ c.loop-b.invariant

pub returns : goal.returns
returns c = sym (text-end _ c.args.words.now c.loop-b.b-index (omega arith)) ∙ c.loop-b.invariant
