-- `entries::marks::mark_run` meets its contract. The invariant: what is left to mark, marked, is all of it.
use mathlib.Core.Logic.{⊎_elim}
use mathlib.Core.Path.{◌≡◌, sym, ap, ◌∙◌}
use Prim.Native.Nat.{ℕ, suc, ◌+◌, ◌-◌}
use native.Mathlib.Numerals.{add-one}
use native.Mathlib.Omega.{arith}
use Rattle.numbers.proofs.FieldLaws.{lt_or_le}
use Rattle.entries.specs.Marks.{slots_put}
use Rattle.entries.proofs.MarkLaws.{slots-zero, slots-suc, slots_past}
use Rattle.entries.proofs.marks.mark_run.Goals as goal

pub loop-slot-init : goal.loop-slot-init
loop-slot-init c =
    let run = c.args.run in
    ap (λ (n : ℕ). slots_put c.args.s.now run.start.0 n c.mark-mark.result) (omega arith)

pub loop-slot-preserved : goal.loop-slot-preserved
loop-slot-preserved c =
    let l = c.loop-slot in
    let run = c.args.run in
    let mark = c.mark-mark.result in
    let e = c.mark_slot.ensures in
    let left : ℕ = run.start.0 + run.slots - (l.slot + 1) in
    let less : suc left ≡ run.start.0 + run.slots - l.slot = omega arith in
    (λ k. slots_put (e k) (add-one l.slot k) left mark)
    ∙ slots-suc l.s l.slot left mark
    ∙ ap (λ (m : ℕ). slots_put l.s l.slot m mark) less
    ∙ l.invariant

pub returns : goal.returns
returns c =
    let l = c.loop-slot in
    let run = c.args.run in
    let mark = c.mark-mark.result in
    let left : ℕ = run.start.0 + run.slots - l.slot in
    let done : slots_put l.s l.slot left mark ≡ l.s =
    ⊎_elim
    (λ b. slots_past l.s l.slot left mark (omega arith))
    (λ b. let none : left ≡ 0 = omega arith in ap (λ (m : ℕ). slots_put l.s l.slot m mark) none ∙ slots-zero l.s l.slot mark)
    (lt_or_le l.slot (run.start.0 + run.slots)) in
    sym done ∙ l.invariant ∙ ap (slots_put c.args.s.now run.start.0 run.slots) c.mark-mark.ensures
