-- `profiles::judge_shape` meets its contract: the law for each way out.
use mathlib.Core.Path.{sym}
use native.Mathlib.Omega.{arith}
use Rattle.framing.proofs.RefusalLaws.{same, last_differ}
use Rattle.framing.proofs.ToldLaws.{handed_out, goes_on}
use Rattle.profiles.specs.Reading.{shape_refusal}
use Rattle.profiles.proofs.judge_shape.Goals as goal

pub returns-in_err-judge_head : goal.returns-in_err-judge_head
unfolding shape_refusal
returns-in_err-judge_head c = handed_out _ _ _ _ c.from_residual.ensures.1 c.in_err-judge_head.ensures

pub returns-then-length_of-bytes_for : goal.returns-then-length_of-bytes_for
unfolding shape_refusal
returns-then-length_of-bytes_for c =
    goes_on _ _ c.in_ok-judge_head.ensures
    (last_differ _ _ _ (λ e. omega arith))

pub returns : goal.returns
unfolding shape_refusal
returns c =
    goes_on _ _ c.in_ok-judge_head.ensures
    (sym (same _ _ _ (omega arith)))
