-- `modes::walk` meets its contract. The loop's invariant: the best so far is the choice among the transitions passed.
use mathlib.Core.Path.{ap, ap₂, ◌∙◌}
use mathlib.Core.List.{List, []}
use Prim.Native.Nat.{ℕ}
use native.Mathlib.Omega.{arith}
use lib.ListN.{length, get_or}
use Rattle.std.specs.Prelude.{Option}
use Rattle.std.specs.Option.{unwrap_or}
use Rattle.modes.specs.declared.Step.{Step}
use Rattle.modes.specs.Next.{opens}
use Rattle.modes.specs.Kept.{considered}
use Rattle.modes.proofs.Walking.{walk_step, best_of_all, as_many}
use Rattle.modes.proofs.Choosing.{choice_or_stays}
use Rattle.modes.proofs.walk.Goals as goal

pub loop-transition-preserved : goal.loop-transition-preserved
loop-transition-preserved c =
    let m = c.args.mode in
    let fs = c.args.flags.now in
    let i = c.loop-transition.transition-index in
    c.consider-best.ensures
    ∙ ap₂ (λ (s : Option Step) (l : List (List ℕ)). considered fs s (get_or l i [])) c.loop-transition.invariant c.requires
    ∙ walk_step m fs i (omega (arith, ap length c.requires, as_many m fs))

pub returns : goal.returns
returns c =
    let m = c.args.mode in
    let fs = c.args.flags.now in
    let i = c.loop-transition.transition-index in
    let whole = best_of_all m fs i (omega (arith, ap length c.requires, as_many m fs)) in
    c.unwrap_or.ensures ∙ ap₂ unwrap_or (c.loop-transition.invariant ∙ whole) c.accept.ensures ∙ choice_or_stays m (opens m fs)
