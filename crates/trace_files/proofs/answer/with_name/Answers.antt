-- `trace_files::answer::with_name` meets its contract: the array has a name for each mode, from 1 on.
use mathlib.Core.Path.{◌≡◌, sym, ap, ◌∙◌}
use mathlib.Core.Bool.{true}
use Prim.Native.Nat.{◌-◌}
use native.Mathlib.Omega.{arith}
use Rattle.lines.specs.Line.{with_text}
use Rattle.lines.specs.Words.{words}
use Rattle.transitions.specs.Names.{is_mode}
use Rattle.transitions.proofs.NameLaws.{mode-low, mode-high}
use Rattle.trace_files.specs.Answer.{mode_names, name_of}
use Rattle.trace_files.proofs.AnswerLaws.{name_two, name_is}
use Rattle.trace_files.proofs.answer.with_name.Goals as goal

pub returns-then-not-is_mode : goal.returns-then-not-is_mode
unfolding name_of with_text
returns-then-not-is_mode c = simp (sym c.is_mode.ensures ∙ c.if-not-is_mode.true)

pub overflow_sub-name : goal.overflow_sub-name
overflow_sub-name c = mode-low c.args.mode (sym c.is_mode.ensures ∙ c.if-not-is_mode.false)

pub bounds-mode-mode : goal.bounds-mode-mode
bounds-mode-mode c =
    let m = c.args.mode in
    let is : is_mode m ≡ true = sym c.is_mode.ensures ∙ c.if-not-is_mode.false in
    omega (arith, mode-low m is, mode-high m is)

pub slice_bounds-with_words-end : goal.slice_bounds-with_words-end
unfolding mode_names words
slice_bounds-with_words-end c =
    let m = c.args.mode in
    let is : is_mode m ≡ true = sym c.is_mode.ensures ∙ c.if-not-is_mode.false in
    sym (name_two (m - 1) (omega (arith, mode-low m is, mode-high m is)))

pub returns : goal.returns
unfolding mode_names words
returns c = c.with_words.ensures ∙ ap (with_text _) (name_is c.args.mode (sym c.is_mode.ensures ∙ c.if-not-is_mode.false))
