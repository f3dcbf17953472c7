-- `fields::read_wide` meets its contract: the field lies within 8 bytes.
use Prim.Native.Nat.{ℕ, ◌+◌, ◌-◌, ◌*◌, ◌/◌, ◌%◌, ◌^◌, ◌≤◌, min}
use mathlib.Core.Path.{◌≡◌, sym, ap, ap₂, ◌∙◌}
use mathlib.Core.List.{List}
use native.Mathlib.Omega.{arith}
use lib.Pow.{pow_pos}
use Rattle.numbers.specs.Fields.{field}
use Rattle.numbers.specs.Numbers.{number_at}
use Rattle.numbers.proofs.FieldLaws.{field-zero}
use Rattle.numbers.proofs.WithinLaws.{field_within}
use Rattle.fields.proofs.read_wide.Goals as goal

-- of plain numbers
shifted : (s : List ℕ) (at w : ℕ) → w ≤ 57 → number_at 8 s (at / 8) / 2 ^ (64 - at % 8 - w) % 2 ^ w ≡ field s at w
shifted s at w h =
    let m : ℕ = 64 - at % 8 - w in
    let e : at % 8 + w + m ≡ 64 = omega arith in
    let f : 8 * (at / 8) + at % 8 ≡ at = omega arith in
    ap (λ (t : ℕ). field s (8 * (at / 8)) t / 2 ^ m % 2 ^ w) (sym e) ∙ sym (field_within s (8 * (at / 8)) (at % 8) w m) ∙ ap (λ (p : ℕ). field s p w) f

pub returns-then-w-eq0 : goal.returns-then-w-eq0
returns-then-w-eq0 c = let a = c.args in
    let e : 0 ≡ min a.width 57 = omega arith in
    sym (field-zero a.s.now a.at) ∙ ap (field a.s.now a.at) e

pub nonzero_rem-result-2 : goal.nonzero_rem-result-2
nonzero_rem-result-2 c = omega (arith, pow_pos c.min-w.result)

pub returns : goal.returns
returns c = let a = c.args in
    let w = c.min-w in
    ap₂ (λ (x y : ℕ). x / 2 ^ (64 - a.at % 8 - w.result) % y) c.window.ensures c.weight.ensures
    ∙ shifted a.s.now a.at w.result (omega arith)
    ∙ ap (field a.s.now a.at) w.ensures
