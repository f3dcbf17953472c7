-- `gate_writing::number_of` meets its contract: it has the pieces as its digits.
use Prim.Native.Nat.{◌+◌, ◌*◌, ◌%◌}
use mathlib.Core.Path.{sym, ap, ◌∙◌}
use native.Mathlib.Omega.{arith}
use Rattle.numbers.specs.Pieces.{total}
use Rattle.profiles.proofs.WritingLaws.{entry_number}
use Rattle.gates.specs.Gates.{gate_profile, distance_width}
use Rattle.gates.proofs.GateLaws.{regular}
use Rattle.gates.proofs.PutLaws.{joined_gate}
use Rattle.gate_writing.proofs.number_of.Goals as goal

pub returns : goal.returns
unfolding total
returns c =
    let gate = c.args.gate.now in
    let far = c.from-far.ensures ∙ c.pair_at.ensures.0 in
    let number = c.from-number.ensures ∙ ap (λ x. x % 1024) c.pair_at-2.ensures.0 in
    entry_number gate_profile (regular distance_width (omega arith)) gate _ c.requires
    ((λ i. far i * 1048576 + number i * 1024 + (c.from-suffix.ensures i * 128 + c.from-manning.ensures i * 64) + (c.from-class.ensures i * 8 + c.from-whistling.ensures i * 4 + c.from-whistle.ensures i))
    ∙ sym (joined_gate gate (λ k. omega (arith, c.type_inv.gate k)) c.requires))
