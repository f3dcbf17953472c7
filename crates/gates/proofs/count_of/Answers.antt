-- `gates::count_of` meets its contract: the count is digits of the header.
use Prim.Native.Nat.{ℕ, ◌%◌}
use mathlib.Core.Path.{sym, ap, ◌∙◌}
use native.Mathlib.Nat.{div-one}
use native.Mathlib.Omega.{arith}
use Rattle.numbers.specs.Fields.{field}
use Rattle.numbers.proofs.WithinLaws.{field_within}
use Rattle.gates.proofs.count_of.Goals as goal

pub returns : goal.returns
returns c = let s = c.args.s.now in
    (ap (λ (x : ℕ). x % 32) (c.half_at.ensures ∙ sym (div-one (field s 0 16))) ∙ sym (field_within s 0 11 5 0), omega arith)
