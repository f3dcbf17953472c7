-- `numbers::put_half` meets its contract.
use mathlib.Core.Path.{ap, ◌∙◌}
use Prim.Native.Nat.{ℕ, suc}
use mathlib.Core.List.{List}
use lib.ListN.{get_or, set}
use native.Mathlib.Omega.{arith}
use Rattle.numbers.proofs.BytesLaws.{stored}
use Rattle.numbers.proofs.put_half.Goals as goal

pub returns : goal.returns
returns c =
    let a = c.args in
    c.put_bytes.ensures ∙ ap (λ (bs : List ℕ). set (set a.out.now a.i (get_or bs 2 0)) (suc a.i) (get_or bs 3 0)) c.to_be_bytes.ensures
    ∙ stored a.out.now a.i 2 a.x (λ k. grind arith)
