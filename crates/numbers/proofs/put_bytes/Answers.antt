-- `numbers::put_bytes` meets its contract: where all have room, they are stored in one go.
use Prim.Native.Nat.{ℕ}
use mathlib.Core.Path.{ap}
use native.Mathlib.Omega.{arith}
use lib.ListN.{length, length-take, length-drop}
use Rattle.numbers.proofs.CopyLaws.{sets_part}
use Rattle.numbers.proofs.put_bytes.Goals as goal

pub returns-then-out-i : goal.returns-then-out-i
returns-then-out-i g c =
    let a = c.args in
    let p = c.copy_from_slice.ensures in
    sets_part a.out.now _ a.bytes a.i _ p.after (omega (arith, length-take {A = ℕ}, length-drop {A = ℕ}, ap length p.after, p.len)) (omega arith)
