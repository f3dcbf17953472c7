-- `transitions::leaving` meets its contract: the transitions of a mode stand from one start to the next.
use mathlib.Core.Path.{sym, ◌∙◌}
use Prim.Native.Nat.{◌+◌, ◌≤◌}
use native.Mathlib.Omega.{arith}
use Rattle.transitions.proofs.NameLaws.{mode-high}
use Rattle.transitions.proofs.Held.{starts_rise, starts_in, leaving_part, leaving_none}
use Rattle.transitions.proofs.leaving.Goals.{Else-not-is_mode, After-first-2}
use Rattle.transitions.proofs.leaving.Goals as goal

pub returns-then-not-is_mode : goal.returns-then-not-is_mode
returns-then-not-is_mode c = leaving_none c.args.mode (sym c.is_mode.ensures ∙ c.if-not-is_mode.true)

pub overflow_add-mode : goal.overflow_add-mode
overflow_add-mode c = omega (arith, mode-high c.args.mode (sym c.is_mode.ensures ∙ c.if-not-is_mode.false))

pub offset_bounds-all-first : goal.offset_bounds-all-first
offset_bounds-all-first c = omega (arith, c.first.ensures, starts_in c.args.mode)

-- the starts do not fall
rise : (c : After-first-2) → c.first.result ≤ c.first-2.result
rise c = rw (c.first.ensures, c.first-2.ensures) (starts_rise c.args.mode (c.args.mode + 1) (omega arith))

pub slice_bounds-result-count : goal.slice_bounds-result-count
slice_bounds-result-count c = rise c

pub slice_bounds-result-start : goal.slice_bounds-result-start
slice_bounds-result-start c = rise c

pub slice_bounds-result-end-2 : goal.slice_bounds-result-end-2
slice_bounds-result-end-2 c = rw c.first-2.ensures (starts_in (c.args.mode + 1))

pub returns : goal.returns
returns c =
    let m = c.args.mode in
    rw (c.first.ensures, c.first-2.ensures, c.all.ensures) (leaving_part m (mode-high m (sym c.is_mode.ensures ∙ c.if-not-is_mode.false)))
