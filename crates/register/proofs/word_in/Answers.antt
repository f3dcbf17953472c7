-- `register::word_in` meets its contract.
use mathlib.Core.Path.{sym}
use Prim.Native.Nat.{◌+◌, ◌*◌}
use native.Mathlib.Omega.{arith}
use Rattle.numbers.proofs.FieldLaws.{field_past}
use Rattle.rows.specs.Row.{row_bytes}
use Rattle.register.proofs.word_in.Goals as goal

pub returns-then-register-at : goal.returns-then-register-at
returns-then-register-at c =
    let a = c.args in
    sym (field_past a.register.now (8 * (a.at + row_bytes * a.i + a.offset)) 32 (omega arith))
