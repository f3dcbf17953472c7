-- `trace_files::files::check_all` meets its contract, and ends: the entries that a file can still have fall.
use mathlib.Core.Path.{refl, sym, ◌∙◌}
use Rattle.trace_files.proofs.TurnLaws.{goes_on_lem, going_first, going_next, fewer, all-checked}
use borrow.Author.Rules.{rules}
use Rattle.trace_files.proofs.files.check_all.Goals as goal

pub loop-reader-init : goal.loop-reader-init
loop-reader-init g c = (going_first _ c.begun-file.ensures, refl)

pub step-file-requires : goal.step-file-requires
step-file-requires g c = (goes_on_lem _ (sym c.goes_on.ensures ∙ c.loop-reader-test.true)).2

pub loop-reader-smaller : goal.loop-reader-smaller
loop-reader-smaller g c = fewer c.step-file.ensures (sym c.goes_on.ensures ∙ c.loop-reader-test.true)

pub loop-reader-preserved : goal.loop-reader-preserved
loop-reader-preserved g c =
    (going_next c.loop-reader.invariant.0 (sym c.goes_on.ensures ∙ c.loop-reader-test.true) c.step-file.ensures, search rules)

pub returns : goal.returns
returns g c = all-checked c.loop-reader.invariant.0 (sym c.goes_on.ensures ∙ c.loop-reader-test.false)
