-- `modes::plain::counts` meets its contract: the transition leaves another mode, or one of its conditions is set, or none is.
use mathlib.Core.Path.{◌≡◌, ap, ◌∙◌, sym}
use mathlib.Core.List.{List}
use Prim.Native.Nat.{ℕ}
use native.Mathlib.Omega.{arith}
use lib.ListN.{take, drop, length-drop}
use lib.Seq.{take_all}
use Rattle.std.proofs.Common.{rules, tests}
use Rattle.std.proofs.lemmas.Iterator.{YieldsList-from_slice}
use Rattle.std.proofs.lemmas.Iterator.Search.{any_from_yields_List}
use Rattle.modes.proofs.Passing.{is_named, any_named, leaves_another, leaves_this}
use Rattle.modes.proofs.plain.counts.Goals as goal

pub returns-then-leaves_from : goal.returns-then-leaves_from
returns-then-leaves_from c =
    let fs = c.args.flags.now in
    let bytes = c.args.transition.now in
    let items = take 9 (drop 2 bytes) in
    let all : items ≡ drop 2 bytes = take_all 9 (drop 2 bytes) (omega (arith, length-drop 2 bytes)) in
    any_from_yields_List (is_named fs) _ _ _ c.any.ensures.ran (YieldsList-from_slice items cc) (λ x b q k. search (rules, tests))
    ∙ ap (any_named fs) all
    ∙ ap (λ (l : List ℕ). any_named fs (drop 2 l)) c.requires.0
    ∙ sym (leaves_this c.args.t c.requires.1 c.args.mode fs (sym c.leaves_from.ensures ∙ c.if-leaves_from.true))

pub returns-else-leaves_from : goal.returns-else-leaves_from
returns-else-leaves_from c =
    let left = c.if-leaves_from.false in
    left ∙ sym (leaves_another c.args.t c.requires.1 c.args.mode c.args.flags.now (sym c.leaves_from.ensures ∙ left))
