-- `gates::judge_fields` meets its contract: at each `return` the tests that led there pick the ground. Which tests those are is left to `omega`.
use native.Mathlib.Omega.{arith}
use Rattle.gates.specs.Gates.{gate_rules}
use Rattle.framing.proofs.RefusalLaws.{not_below, below, last_not_below, last_below}
use Rattle.gates.proofs.judge_fields.Goals as goal

pub returns-then-number-lt1 : goal.returns-then-number-lt1
unfolding gate_rules
returns-then-number-lt1 c = below _ _ _ (omega arith)

pub returns-then-number-gt-LAST_NUMBER : goal.returns-then-number-gt-LAST_NUMBER
unfolding gate_rules
returns-then-number-gt-LAST_NUMBER c =
    not_below _ _ _ _ (omega arith)
    (below _ _ _ (omega arith))

pub returns-then-suffix-gt-LAST_SUFFIX : goal.returns-then-suffix-gt-LAST_SUFFIX
unfolding gate_rules
returns-then-suffix-gt-LAST_SUFFIX c =
    not_below _ _ _ _ (omega arith)
    (not_below _ _ _ _ (omega arith)
    (below _ _ _ (omega arith)))

pub returns-then-class-gt-LAST_CLASS : goal.returns-then-class-gt-LAST_CLASS
unfolding gate_rules
returns-then-class-gt-LAST_CLASS c =
    not_below _ _ _ _ (omega arith)
    (not_below _ _ _ _ (omega arith)
    (not_below _ _ _ _ (omega arith)
    (below _ _ _ (omega arith))))

pub returns-then-whistle-gt-LAST_WHISTLE : goal.returns-then-whistle-gt-LAST_WHISTLE
unfolding gate_rules
returns-then-whistle-gt-LAST_WHISTLE c =
    not_below _ _ _ _ (omega arith)
    (not_below _ _ _ _ (omega arith)
    (not_below _ _ _ _ (omega arith)
    (not_below _ _ _ _ (omega arith)
    (last_below _ _ _ (omega arith)))))

pub returns : goal.returns
unfolding gate_rules
returns c =
    not_below _ _ _ _ (omega arith)
    (not_below _ _ _ _ (omega arith)
    (not_below _ _ _ _ (omega arith)
    (not_below _ _ _ _ (omega arith)
    (last_not_below _ _ _ (omega arith)))))
