-- `traces::entry::is_out_of_range` meets its contract: the previous mode is none that can be, the step refuses, or the mode after is looked at.
use mathlib.Core.Path.{sym, ap, ◌∙◌}
use mathlib.Core.Bool.{not}
use mathlib.Core.Logic.{⊎_elim}
use native.Mathlib.Omega.{arith}
use borrow.Author.Tests.{lt-ltb, le-ltb, ne_eqb}
use Rattle.transitions.specs.Names.{is_mode}
use Rattle.modes.specs.declared.Step.{Step}
use Rattle.traces.specs.Entry.{is_out_of_range}
use Rattle.traces.proofs.EntryLaws.{refuses_by_answer, accepts_by_answer}
use Rattle.traces.proofs.entry.is_out_of_range.Goals as goal
use Rattle.traces.proofs.entry.is_out_of_range.Goals.{then-previous-gt-IS, else-previous-gt-IS}

pub returns-then-step-ne0 : goal.returns-then-step-ne0
unfolding is_out_of_range
returns-then-step-ne0 c =
    let answer = ap (λ (s : Step). s.answer) c.requires in
    elim c.if-previous-gt-IS.branch [
      | then-previous-gt-IS w ↦ w.t-5-is ∙ simp (lt-ltb _ _ w.if-previous-gt-IS.true)
      | else-previous-gt-IS w ↦
          ⊎_elim (λ h. absurd (omega arith))
          (λ k. w.t-5-is ∙ simp (le-ltb _ _ k.0, ne_eqb _ _ k.1, refuses_by_answer _ _ (λ z. k.1 (answer ∙ z))))
          c.if-step-ne0.either
    ]

pub returns-else-step-ne0 : goal.returns-else-step-ne0
unfolding is_out_of_range
returns-else-step-ne0 c =
    let answer = ap (λ (s : Step). s.answer) c.requires in
    simp (le-ltb _ _ c.if-step-ne0.false.0, accepts_by_answer _ _ (sym answer ∙ c.if-step-ne0.false.1))
    (ap not (c.is_mode.ensures ∙ ap is_mode c.mode_after.ensures))
