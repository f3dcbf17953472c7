-- `trace_files::telling::bad_flag` meets its contract: what is found from a flag on is what is found from the first.
use mathlib.Core.Path.{◌≡◌, refl, ◌∙◌}
use Prim.Native.Nat.{◌+◌, ◌-◌}
use native.Mathlib.Omega.{arith}
use Rattle.traces.specs.Entry.{mode_after_at}
use Rattle.trace_files.specs.Reasons.{bad_flag}
use Rattle.trace_files.proofs.ReasonLaws.{above_here, above_next, above_end}
use Rattle.trace_files.proofs.telling.bad_flag.Goals as goal

pub loop-at-init : goal.loop-at-init
unfolding bad_flag
loop-at-init c = refl

pub returns-then-byte_at-gt1 : goal.returns-then-byte_at-gt1
returns-then-byte_at-gt1 c =
    let at = c.loop-at.at in
    above_here c.args.first.now at (mode_after_at - at) (omega (arith, c.loop-at-test.true)) (omega (arith, c.if-byte_at-gt1.true, c.byte_at.ensures))
    ∙ c.loop-at.invariant

pub loop-at-preserved : goal.loop-at-preserved
loop-at-preserved c =
    let at = c.loop-at.at in
    above_next c.args.first.now at (mode_after_at - at) (mode_after_at - (at + 1)) (omega (arith, c.loop-at-test.true))
    (omega (arith, c.if-byte_at-gt1.false, c.byte_at.ensures))
    ∙ c.loop-at.invariant

pub returns : goal.returns
returns c =
    let at = c.loop-at.at in
    let end : mode_after_at ≡ at = omega (arith, c.loop-at-test.false, c.loop-at.auto.at-end (omega arith)) in
    end ∙ above_end c.args.first.now at (mode_after_at - at) (omega arith) ∙ c.loop-at.invariant
