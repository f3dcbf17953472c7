-- `fields::search::first_set` meets its contract. The invariant: what is found in the bits left is what is found in all.
use Prim.Native.Nat.{ℕ, suc, ◌+◌, ◌-◌, ◌≤◌, ◌<◌, max}
use mathlib.Core.Path.{◌≡◌, sym, ap, ◌∙◌}
use native.Mathlib.Numerals.{add-one}
use native.Mathlib.Omega.{arith}
use Rattle.fields.specs.FirstSet.{first_set}
use Rattle.fields.proofs.FirstSetLaws.{field-one, found, passed, nothing_left}
use Rattle.fields.proofs.search.first_set.Goals as goal

-- a bit is left, so that what is left is one and the others
left : (end p : ℕ) → p < end → suc (end - (p + 1)) ≡ end - p
left end p h = omega arith

pub returns-then-read_field-eq1 : goal.returns-then-read_field-eq1
returns-then-read_field-eq1 c = let l = c.loop-p in
    let a = c.args in
    found a.s.now l.p (a.end - (l.p + 1)) (sym (field-one a.s.now l.p) ∙ sym c.read_field.ensures ∙ c.if-read_field-eq1.true)
    ∙ ap (first_set a.s.now l.p) (left a.end l.p (omega arith))
    ∙ l.invariant

pub loop-p-preserved : goal.loop-p-preserved
loop-p-preserved c = let l = c.loop-p in
    let a = c.args in
    ap (λ (q : ℕ). first_set a.s.now q (a.end - (l.p + 1))) (add-one l.p)
    ∙ passed a.s.now l.p (a.end - (l.p + 1)) (λ e. c.if-read_field-eq1.false (c.read_field.ensures ∙ field-one a.s.now l.p ∙ e))
    ∙ ap (first_set a.s.now l.p) (left a.end l.p (omega arith))
    ∙ l.invariant

pub returns : goal.returns
returns c = let l = c.loop-p in
    let a = c.args in
    let none : (p : ℕ) → a.end ≤ p → first_set a.s.now p (a.end - p) ≡ p =
    λ p h. let e : a.end - p ≡ 0 = omega arith in ap (first_set a.s.now p) e ∙ nothing_left a.s.now p in
    let here : l.p ≡ first_set a.s.now a.at (a.end - a.at) = sym (none l.p (omega arith)) ∙ l.invariant in
    let before : a.end ≤ a.at → l.p ≡ a.at = λ h. here ∙ none a.at h in
    let last : max a.at a.end ≡ l.p = grind arith in
    c.max.ensures ∙ last ∙ here
