-- `rows::row::put_flagged` meets its contract.
use Prim.Native.Nat.{◌+◌}
use mathlib.Core.List.{[], ◌∷◌}
use native.Mathlib.Omega.{arith}
use Rattle.rows.proofs.Bytewise.{put_next, put-done}
use Rattle.rows.proofs.row.put_flagged.Goals as goal

pub returns : goal.returns
returns c =
    let a = c.args in
    put_next 1 a.i (a.i + 1) (4 ∷ []) _ _ _ _ _ c.put_byte.ensures (omega arith)
    (put_next 4 (a.i + 1) (a.i + 1 + 4) [] _ _ _ _ _ c.put_word.ensures (omega arith) (put-done _ _))
