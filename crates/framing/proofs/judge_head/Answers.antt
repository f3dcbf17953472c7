-- `framing::judge_head` meets its contract: at each `return` the tests that led there pick the ground.
use lib.ListN.{length}
use native.Mathlib.Omega.{arith}
use Rattle.framing.specs.Framing.{type_of, length_of, head_refusal}
use Rattle.framing.proofs.RefusalLaws.{not_below, below, last_not_below, last_below}
use Rattle.framing.proofs.judge_head.Goals as goal

pub returns-then-s-lt2 : goal.returns-then-s-lt2
unfolding head_refusal
returns-then-s-lt2 c = below _ _ _ c.if-s-lt2.true

pub returns-then-kind-low : goal.returns-then-kind-low
unfolding head_refusal
returns-then-kind-low c = let a = c.args in
    not_below (length a.s.now) 2 _ _ (omega arith)
    (below (type_of a.s.now) a.low _ (omega arith))

pub returns-then-high-kind : goal.returns-then-high-kind
unfolding head_refusal
returns-then-high-kind c = let a = c.args in
    not_below (length a.s.now) 2 _ _ (omega arith)
    (not_below (type_of a.s.now) a.low _ _ (omega arith)
    (below a.high (type_of a.s.now) _ (omega arith)))

pub returns-then-n-lt2 : goal.returns-then-n-lt2
unfolding head_refusal
returns-then-n-lt2 c = let a = c.args in
    not_below (length a.s.now) 2 _ _ (omega arith)
    (not_below (type_of a.s.now) a.low _ _ (omega arith)
    (not_below a.high (type_of a.s.now) _ _ (omega arith)
    (below (length_of a.s.now) 2 _ (omega arith))))

pub returns-then-s-n : goal.returns-then-s-n
unfolding head_refusal
returns-then-s-n c = let a = c.args in
    not_below (length a.s.now) 2 _ _ (omega arith)
    (not_below (type_of a.s.now) a.low _ _ (omega arith)
    (not_below a.high (type_of a.s.now) _ _ (omega arith)
    (not_below (length_of a.s.now) 2 _ _ (omega arith)
    (last_below (length a.s.now) (length_of a.s.now) _ (omega arith)))))

pub returns : goal.returns
unfolding head_refusal
returns c = let a = c.args in
    not_below (length a.s.now) 2 _ _ (omega arith)
    (not_below (type_of a.s.now) a.low _ _ (omega arith)
    (not_below a.high (type_of a.s.now) _ _ (omega arith)
    (not_below (length_of a.s.now) 2 _ _ (omega arith)
    (last_not_below (length a.s.now) (length_of a.s.now) _ (omega arith)))))
