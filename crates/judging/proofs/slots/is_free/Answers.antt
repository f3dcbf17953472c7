-- `judging::slots::is_free` meets its contract.
use mathlib.Core.Path.{ap, ◌∙◌}
use mathlib.Core.Bool.{not}
use Rattle.judging.proofs.SlotLaws.{free_in, free_out, in_book, not_in_book}
use mathlib.Core.Logic.{inl, inr}
use Rattle.judging.proofs.slots.is_free.Goals as goal

pub returns-then-slot-lt1 : goal.returns-then-slot-lt1
returns-then-slot-lt1 c = free_out _ _ (not_in_book _ (inl c.if-slot-lt1.true))

pub returns-then-slot-gt-LAST_SLOT : goal.returns-then-slot-gt-LAST_SLOT
returns-then-slot-gt-LAST_SLOT c = free_out _ _ (not_in_book _ (inr c.if-slot-gt-LAST_SLOT.true))

pub returns : goal.returns
returns c = ap not c.is_taken.ensures ∙ free_in _ _ (in_book _ c.if-slot-lt1.false c.if-slot-gt-LAST_SLOT.false)
