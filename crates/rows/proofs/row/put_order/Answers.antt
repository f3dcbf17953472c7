-- `rows::row::put_order` meets its contract.
use Prim.Native.Nat.{◌+◌}
use native.Mathlib.Omega.{arith}
use Rattle.rows.specs.Parts.{flagged_sizes}
use Rattle.rows.proofs.Bytewise.{put_next}
use Rattle.rows.proofs.row.put_order.Goals as goal

pub returns : goal.returns
returns c =
    let a = c.args in
    put_next 4 a.i (a.i + 4) flagged_sizes _ _ _ _ _ c.put_word.ensures (omega arith) c.put_optional.ensures
