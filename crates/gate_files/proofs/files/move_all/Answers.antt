-- `gate_files::files::move_all` meets its contract, and ends: the sub-packets that a file can still have fall.
use mathlib.Core.Path.{refl, sym, ◌∙◌}
use borrow.Author.Rules.{rules}
use Rattle.gate_files.specs.Files.{blank}
use Rattle.gate_files.proofs.TurnLaws.{goes_on_lem, going_first, going_next, fewer, all_moved_lem}
use Rattle.gate_files.proofs.files.move_all.Goals as goal

pub loop-from-init : goal.loop-from-init
loop-from-init g c = (going_first _ _ c.begun-file.ensures, refl)

pub step-made-requires : goal.step-made-requires
unfolding blank
step-made-requires g c =
    (record { few = (goes_on_lem _ (sym c.goes_on.ensures ∙ c.loop-from-test.true)).2; short = c.loop-from.invariant.0.short }, refl)

pub loop-from-smaller : goal.loop-from-smaller
loop-from-smaller g c = fewer (sym c.goes_on.ensures ∙ c.loop-from-test.true) c.step-made.ensures c.written-file.ensures.value

pub loop-from-preserved : goal.loop-from-preserved
loop-from-preserved g c = (
  going_next c.loop-from.invariant.0 (sym c.goes_on.ensures ∙ c.loop-from-test.true) c.step-made.ensures c.written-file.ensures.value,
  search rules,
)

pub returns : goal.returns
returns g c = all_moved_lem c.loop-from.invariant.0 (sym c.goes_on.ensures ∙ c.loop-from-test.false)
