-- `modes::consider` meets its contract: the transition is open, or it is not.
use mathlib.Core.Path.{ap, ◌∙◌, sym}
use Rattle.std.specs.Prelude.{Some}
use Rattle.modes.specs.declared.Step.{Step}
use Rattle.modes.proofs.Walking.{considered_open, considered_shut}
use Rattle.modes.proofs.consider.Goals as goal

pub returns-then-not-is_open : goal.returns-then-not-is_open
returns-then-not-is_open c = sym (considered_shut _ _ _ (sym c.is_open.ensures ∙ c.if-not-is_open.true))

pub returns : goal.returns
returns c =
    ap (λ (s : Step). Some s) (c.keep.ensures ∙ rw (c.from-target.ensures, c.from-priority.ensures))
    ∙ sym (considered_open _ _ _ (sym c.is_open.ensures ∙ c.if-not-is_open.false))
