-- `fields::windows::put_window` meets its contract: its eight bytes are stored in one go, or as far as there is room.
use mathlib.Core.Path.{ap, ◌∙◌}
use native.Mathlib.Omega.{arith}
use lib.Seq.{sets}
use Rattle.numbers.proofs.BytesLaws.{stored}
use Rattle.numbers.proofs.CopyLaws.{sets_part}
use Rattle.fields.proofs.windows.put_window.Goals as goal

pub returns-then-i-out : goal.returns-then-i-out
returns-then-i-out c =
    let a = c.args in
    sets_part a.out.now _ _ a.i _ (c.copy_from_slice.ensures.after ∙ c.to_be_bytes.ensures) (omega arith) (omega arith)
    ∙ stored a.out.now a.i 8 a.x (λ k. grind arith)

pub returns-else-i-out : goal.returns-else-i-out
returns-else-i-out c =
    let a = c.args in
    c.put_bytes.ensures ∙ ap (sets a.out.now a.i) c.to_be_bytes-else-i-out.ensures
    ∙ stored a.out.now a.i 8 a.x (λ k. grind arith)
