-- `entries::copy_row` meets its contract.
use Prim.Native.Nat.{ℕ}
use mathlib.Core.List.{List}
use mathlib.Core.Path.{sym, ap, ◌∙◌}
use lib.ListN.{take, drop}
use lib.Seq.{sets}
use Rattle.rows.specs.Row.{row_bytes}
use Rattle.store.proofs.Stretches.{length-stretch}
use Rattle.entries.specs.Copied.{copied}
use Rattle.entries.proofs.CopyLaws.{row_copied_lem, row-passed, copied_over}
use Rattle.entries.proofs.copy_row.Goals as goal

pub returns-then-i-lt-ROWS : goal.returns-then-i-lt-ROWS
unfolding copied
returns-then-i-lt-ROWS c =
    let a = c.args in
    let v : List ℕ = take row_bytes (drop a.from a.s.now) in
    c.copy-then-i-lt-ROWS.ensures
    ∙ ap (λ (l : List ℕ). sets a.s.now a.to (take row_bytes (drop 0 l))) c.copy.ensures
    ∙ ap (sets a.s.now a.to) (copied_over row_bytes v (length-stretch a.s.now row_bytes a.from c.requires))
    ∙ sym (row_copied_lem a.s.now a.i a.from a.to c.if-i-lt-ROWS.true)

pub returns-else-i-lt-ROWS : goal.returns-else-i-lt-ROWS
returns-else-i-lt-ROWS c =
    let a = c.args in
    sym (row-passed a.s.now a.i a.from a.to c.if-i-lt-ROWS.false)
