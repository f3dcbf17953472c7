-- `profiles::judge_end` meets its contract: the law for each way out.
use Prim.Native.Nat.{ℕ, ◌-◌, ◌*◌}
use mathlib.Core.Path.{ap, ◌∙◌}
use native.Mathlib.Omega.{arith}
use Rattle.numbers.specs.Fields.{field}
use Rattle.fields.specs.FirstSet.{first_set}
use Rattle.framing.specs.Refusals.{padding_set}
use Rattle.framing.proofs.RefusalLaws.{below, not_below}
use Rattle.profiles.specs.Profiles.{padding_for}
use Rattle.profiles.specs.Reading.{end_refusal}
use Rattle.profiles.proofs.judge_end.Goals.{Start}
use Rattle.profiles.proofs.judge_end.Goals as goal

abbrev padding : Start → ℕ
padding c = field c.args.s.now c.args.bits (padding_for c.args.bits)

pub returns-then-padding_of-gt0 : goal.returns-then-padding_of-gt0
unfolding end_refusal
returns-then-padding_of-gt0 c =
    let a = c.args in
    ap padding_set (c.first_set.ensures ∙ ap (λ (b : ℕ). first_set a.s.now a.bits (8 * b - a.bits)) c.bytes_for-end.ensures)
    ∙ below 0 (padding (goal.at.returns-then-padding_of-gt0 c).Start) _ (omega (arith, c.padding_of.ensures))

pub returns : goal.returns
unfolding end_refusal
returns c = not_below 0 (padding (goal.at.returns c).Start) _ _ (omega (arith, c.padding_of.ensures)) c.judge_room.ensures
