-- `numbers::put_byte` meets its contract.
use Prim.Native.Nat.{ℕ}
use mathlib.Core.List.{List}
use mathlib.Core.Path.{sym, ap, ◌∙◌}
use native.Mathlib.Omega.{arith}
use lib.ListN.{get_or, set}
use Rattle.numbers.proofs.BytesLaws.{stored}
use Rattle.numbers.proofs.NumberLaws.{number_put_past}
use Rattle.numbers.proofs.put_byte.Goals as goal

pub returns-then-i-out : goal.returns-then-i-out
returns-then-i-out c =
    let a = c.args in
    ap (λ (bs : List ℕ). set a.out.now a.i (get_or bs 3 0)) c.to_be_bytes.ensures
    ∙ stored a.out.now a.i 1 a.x (λ k. grind arith)

pub returns-else-i-out : goal.returns-else-i-out
returns-else-i-out c = sym (number_put_past 1 _ _ _ c.if-i-out.false)
