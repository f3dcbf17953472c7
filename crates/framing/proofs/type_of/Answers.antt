-- `framing::type_of` meets its contract: the type is digits of the header.
use Prim.Native.Nat.{ℕ, ◌/◌, ◌%◌}
use mathlib.Core.Path.{sym, ap, ◌∙◌}
use Rattle.numbers.proofs.WithinLaws.{field_within}
use Rattle.framing.proofs.type_of.Goals as goal

pub returns : goal.returns
returns c = ap (λ (x : ℕ). x / 4096 % 16) c.half_at.ensures ∙ sym (field_within c.args.s.now 0 0 4 12)
