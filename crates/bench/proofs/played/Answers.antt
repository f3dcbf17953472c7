-- `bench::played` meets its contract, and ends: the records that a recording can still have fall.
use mathlib.Core.Path.{refl, sym, ◌∙◌}
use borrow.Author.Rules.{rules}
use Rattle.bench.specs.Playing.{bytes}
use Rattle.bench.proofs.PlayLaws.{going_first, going_next, fewer}
use Rattle.bench.proofs.played.Goals as goal

pub loop-reader-init : goal.loop-reader-init
loop-reader-init g c = (going_first _ _ c.begun-play.ensures.value, refl, refl, refl)

pub loop-reader-smaller : goal.loop-reader-smaller
loop-reader-smaller g c =
    let going = c.loop-reader.invariant.0 in
    let on = sym c.goes_on.ensures ∙ c.loop-reader-test.true in
    let step = c.step-play in
    fewer {a = bytes step.new.session step.new.input step.new.output} on (going.few on) step.ensures

pub loop-reader-preserved : goal.loop-reader-preserved
loop-reader-preserved g c =
    let going = c.loop-reader.invariant.0 in
    let on = sym c.goes_on.ensures ∙ c.loop-reader-test.true in
    let step = c.step-play in (
      going_next {a = bytes step.new.session step.new.input step.new.output} going on step.ensures,
      search rules,
      search rules,
      search rules,
    )
