-- `entries::marks::mark_slot` meets its contract.
use mathlib.Core.Path.{◌≡◌, sym, ap, ◌∙◌}
use Prim.Native.Nat.{ℕ, ◌+◌, ◌-◌}
use native.Mathlib.Omega.{arith}
use Rattle.numbers.specs.Numbers.{put_number}
use Rattle.store.specs.Layout.{book_at}
use Rattle.kinds.specs.Kinds.{last_slot}
use Rattle.kinds.proofs.RangeLaws.{one-to}
use Rattle.entries.proofs.MarkLaws.{slot_there}
use Rattle.entries.proofs.marks.mark_slot.Goals as goal

pub returns-then-in_range : goal.returns-then-in_range
returns-then-in_range c =
    let a = c.args in
    let there = sym c.in_range.ensures ∙ c.if-in_range.true in
    let at : 11 + a.slot.0 ≡ book_at + (a.slot.0 - 1) = omega (arith, one-to last_slot a.slot.0 there) in
    c.put_byte.ensures ∙ ap (λ (i : ℕ). put_number 1 a.s.now i a.mark) at ∙ sym (slot_there a.s.now a.slot.0 a.mark there)
