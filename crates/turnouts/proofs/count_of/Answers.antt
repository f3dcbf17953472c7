-- `turnouts::count_of` meets its contract: the count is digits of the header.
use Prim.Native.Nat.{ℕ, ◌/◌, ◌%◌}
use mathlib.Core.Path.{sym, ap, ◌∙◌}
use native.Mathlib.Omega.{arith}
use Rattle.numbers.proofs.WithinLaws.{field_within}
use Rattle.turnouts.proofs.count_of.Goals as goal

pub returns : goal.returns
returns c = let s = c.args.s.now in
    (ap (λ (x : ℕ). x / 8 % 4) c.half_at.ensures ∙ sym (field_within s 0 11 2 3), omega arith)
