-- `traces::entry::judge` meets its contract: the entry is whole, so the flags are there, and a test for each way out.
use mathlib.Core.Path.{sym, ◌∙◌}
use native.Mathlib.Omega.{arith}
use borrow.Author.Rules.{rules}
use Rattle.traces.specs.Entry.{flags_of, due_mode, judged}
use Rattle.traces.proofs.EntryLaws.{entry_whole}
use Rattle.traces.proofs.entry.judge.Goals as goal

pub returns-then-not-is_entry : goal.returns-then-not-is_entry
unfolding judged
returns-then-not-is_entry c = search rules

pub slice_bounds-next_mode-end : goal.slice_bounds-next_mode-end
slice_bounds-next_mode-end c = omega (arith, entry_whole _ (sym c.is_entry.ensures ∙ c.if-not-is_entry.false))

pub is_out_of_range-requires : goal.is_out_of_range-requires
unfolding flags_of
is_out_of_range-requires c = search rules

pub returns-then-is_out_of_range : goal.returns-then-is_out_of_range
unfolding judged
returns-then-is_out_of_range c = search rules

pub returns-then-not-does_follow : goal.returns-then-not-does_follow
unfolding judged
returns-then-not-does_follow c = search rules

pub returns-then-after-step : goal.returns-then-after-step
unfolding judged due_mode flags_of
returns-then-after-step c = search rules

pub returns : goal.returns
unfolding judged due_mode flags_of
returns c = search rules
