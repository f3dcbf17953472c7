-- `fields::write_wide` meets its contract: the field lies within 8 bytes.
use Prim.Native.Nat.{ℕ, ◌+◌, ◌-◌, ◌*◌, ◌/◌, ◌%◌, ◌≤◌, min}
use mathlib.Core.Path.{◌≡◌, sym, ap, ◌∙◌}
use mathlib.Core.List.{List}
use native.Mathlib.Omega.{arith}
use Rattle.numbers.specs.Fields.{field, put}
use Rattle.numbers.specs.Numbers.{number_at, put_number}
use Rattle.numbers.proofs.FieldLaws.{Bytes, put-zero}
use Rattle.numbers.proofs.WithinLaws.{with_digits, put_within}
use Rattle.fields.proofs.write_wide.Goals as goal

-- of plain numbers
within : (s : List ℕ) (at w v : ℕ) → Bytes s → w ≤ 57
    → put_number 8 s (at / 8) (with_digits (number_at 8 s (at / 8)) (64 - at % 8 - w) w v) ≡ put s at w v
within s at w v hs h =
    let m : ℕ = 64 - at % 8 - w in
    let e : at % 8 + w + m ≡ 64 = omega arith in
    let f : 8 * (at / 8) + at % 8 ≡ at = omega arith in
    ap (λ (t : ℕ). put s (8 * (at / 8)) t (with_digits (field s (8 * (at / 8)) t) m w v)) (sym e)
    ∙ sym (put_within s (8 * (at / 8)) (at % 8) w m v hs) ∙ ap (λ (p : ℕ). put s p w v) f

pub returns-then-w-gt0 : goal.returns-then-w-gt0
unfolding with_digits
returns-then-w-gt0 c = let a = c.args in
    let w = c.min-w in
    let m : ℕ = 64 - a.at % 8 - w.result in
    c.put_window.ensures
    ∙ ap (put_number 8 a.out.now (a.at / 8)) (c.with_digits-y.ensures ∙ ap (λ (x : ℕ). with_digits x m w.result a.value) c.window-x.ensures)
    ∙ within a.out.now a.at w.result a.value (λ k. grind arith) (omega arith)
    ∙ ap (λ (n : ℕ). put a.out.now a.at n a.value) w.ensures

pub returns-else-w-gt0 : goal.returns-else-w-gt0
returns-else-w-gt0 c = let a = c.args in
    let e : 0 ≡ min a.width 57 = omega arith in
    sym (put-zero a.out.now a.at a.value) ∙ ap (λ (n : ℕ). put a.out.now a.at n a.value) e
