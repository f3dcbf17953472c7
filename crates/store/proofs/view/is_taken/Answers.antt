-- `store::view::is_taken` meets its contract.
use mathlib.Core.Path.{sym, ap, ◌∙◌}
use Prim.Native.Nat.{ℕ, ◌+◌, ◌-◌}
use mathlib.Core.Bool.{not}
use native.Mathlib.Omega.{arith}
use lib.Dec.{eqb}
use Rattle.numbers.proofs.NumberLaws.{number-byte}
use Rattle.kinds.specs.Kinds.{last_slot}
use Rattle.kinds.proofs.RangeLaws.{one-to}
use Rattle.store.specs.Layout.{book_at}
use Rattle.store.proofs.BookLaws.{taken-by, not_in_book}
use Rattle.store.proofs.view.is_taken.Goals as goal

pub overflow_sub-slot : goal.overflow_sub-slot
overflow_sub-slot c = omega (arith, one-to last_slot c.args.slot.0 (sym c.in_range.ensures ∙ c.if-in_range.true))

pub returns-then-in_range : goal.returns-then-in_range
returns-then-in_range c =
    let a = c.args in
    let at : ℕ = book_at + (a.slot.0 - 1) in
    ap (λ (x : ℕ). not (eqb x 0)) (c.byte_at.ensures ∙ number-byte a.s.now at (omega (arith, c.type_inv.s at)))
    ∙ taken-by a.s.now a.slot (sym c.in_range.ensures ∙ c.if-in_range.true)

pub returns-else-in_range : goal.returns-else-in_range
returns-else-in_range c =
    let a = c.args in
    c.if-in_range.false ∙ sym (not_in_book a.s.now a.slot (sym c.in_range.ensures ∙ c.if-in_range.false))
