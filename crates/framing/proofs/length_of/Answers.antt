-- `framing::length_of` meets its contract: the length is digits of the header.
use Prim.Native.Nat.{ℕ, ◌/◌, ◌%◌}
use mathlib.Core.Path.{sym, ap, ◌∙◌}
use native.Mathlib.Omega.{arith}
use Rattle.numbers.proofs.WithinLaws.{field_within}
use Rattle.framing.proofs.length_of.Goals as goal

pub returns : goal.returns
returns c =
    (ap (λ (x : ℕ). x / 32 % 128) c.half_at.ensures ∙ sym (field_within c.args.s.now 0 4 7 5), omega arith)
