-- Laws of one distance: what a form can say the other can, and said in the other form and back it is the same again.
use mathlib.Core.Path.{◌≡◌, ap, ◌∙◌}
use Prim.Native.Nat.{ℕ, ◌+◌, ◌-◌, ◌*◌, ◌/◌, ◌%◌, ◌^◌, ◌≤◌, ◌<◌}
use native.Mathlib.Omega.{arith}
use borrow.Author.Tests.{ltb-false}
use Rattle.framing.specs.Refusals.{none}
use Rattle.framing.proofs.RefusalLaws.{or_else-first, or_else_then, refuse-none, not_below, last_not_below, tried, tested}
use Rattle.framing.specs.Refusals.{Refusal}
use Rattle.gates.specs.Forms.{layout_of, other_form}
use Rattle.gates.specs.{declared.forms.Form.Form, declared.forms.Form.TheVariants.Old, declared.forms.Form.TheVariants.New}
use Rattle.gates.proofs.GateLaws.{each_form}
use Rattle.gate_moving.specs.Moving.{distance_refusal}

-- a form can say so many metres
abbrev pub Says : Form → ℕ → Type 0
Says to metres = (metres % (layout_of to).unit ≡ 0) × (metres ≤ (layout_of to).farthest)

module _ (to : Form) (p metres : ℕ) where
  pub not_refused : (distance_refusal to p metres).number ≡ 0 → Says to metres
  unfolding distance_refusal
  not_refused e =
      let multiple : metres % (layout_of to).unit ≤ 0 = ltb-false _ _ (refuse-none _ _ _ (or_else-first _ _ e)) in
      (omega arith, ltb-false _ _ (refuse-none _ _ _ (or_else_then _ _ e)))

  pub said : Says to metres → none ≡ distance_refusal to p metres
  unfolding distance_refusal
  said says = not_below 0 (metres % (layout_of to).unit) _ _ (omega (arith, says.0)) (last_not_below (layout_of to).farthest metres _ says.1)

  -- it is refused with 6, at its own place, or not at all
  pub only_six : (P : Refusal → Type 0) → P (record { number = 6; place = p }) → P none → P (distance_refusal to p metres)
  unfolding distance_refusal
  only_six P six nothing = tried P _ _ _ _ (λ e. six) (λ e. tested P _ _ (λ e₂. six) (λ e₂. nothing))

-- the metres of a distance that is two bytes, and the two bytes of it in the other form
abbrev pub metres : Form → ℕ → ℕ → ℕ
metres from a b = (a * 256 + b) * (layout_of from).unit

abbrev pub high : Form → ℕ → ℕ → ℕ
high from a b = metres from a b / (layout_of (other_form from)).unit / 256 % 256

abbrev pub low : Form → ℕ → ℕ → ℕ
low from a b = metres from a b / (layout_of (other_form from)).unit % 256

-- two bytes that are a distance of a form, which the other can say
pub record Goes (from : Form) (a b : ℕ) : Type 0 where
  pub first : a < 2 ^ ((layout_of from).distance - 8)
  pub second : b < 2 ^ 8
  pub says : Says (other_form from) (metres from a b)

-- in the other form they are such bytes too, and from there they are the same again
pub record Returns (from : Form) (a b : ℕ) : Type 0 where
  pub goes : Goes (other_form from) (high from a b) (low from a b)
  pub same_high : high (other_form from) (high from a b) (low from a b) ≡ a
  pub same_low : low (other_form from) (high from a b) (low from a b) ≡ b

-- a number of two bytes is its high and its low one
joined : (x : ℕ) → x < 65536 → x / 256 % 256 * 256 + x % 256 ≡ x
joined x h = omega arith

high-of : (a b : ℕ) → a < 256 → b < 256 → (a * 256 + b) / 256 % 256 ≡ a
high-of a b h l = omega arith

low_of : (a b : ℕ) → b < 256 → (a * 256 + b) % 256 ≡ b
low_of a b l = omega arith

tens : (x : ℕ) → x * 10 / 1 * 1 / 10 ≡ x
tens x = omega arith

tenfold : (x : ℕ) → x * 10 / 1 * 1 % 10 ≡ 0
tenfold x = omega arith

ones : (x : ℕ) → x * 1 % 10 ≡ 0 → x * 1 / 10 * 10 / 1 ≡ x
ones x h = omega arith

forward : (a b : ℕ) → Goes Old a b → Returns Old a b
unfolding layout_of other_form
forward a b g =
    let x : ℕ = (a * 256 + b) * 10 / 1 in
    let whole : x / 256 % 256 * 256 + x % 256 ≡ x = joined x (omega (arith, g.first, g.second)) in
    let again : (x / 256 % 256 * 256 + x % 256) * 1 / 10 ≡ a * 256 + b = ap (λ (y : ℕ). y * 1 / 10) whole ∙ tens (a * 256 + b) in
    record {
      goes = record { first = omega (arith, g.first, g.second); second = omega arith; says = (ap (λ (y : ℕ). y * 1 % 10) whole ∙ tenfold (a * 256 + b), omega (arith, whole, g.first, g.second)) };
      same_high = ap (λ (y : ℕ). y / 256 % 256) again ∙ high-of a b (omega (arith, g.first)) g.second;
      same_low = ap (λ (y : ℕ). y % 256) again ∙ low_of a b g.second;
    }

back : (a b : ℕ) → Goes New a b → Returns New a b
unfolding layout_of other_form
back a b g =
    let x : ℕ = (a * 256 + b) * 1 / 10 in
    let whole : x / 256 % 256 * 256 + x % 256 ≡ x = joined x (omega (arith, g.says.1)) in
    let again : (x / 256 % 256 * 256 + x % 256) * 10 / 1 ≡ a * 256 + b = ap (λ (y : ℕ). y * 10 / 1) whole ∙ ones (a * 256 + b) g.says.0 in
    record {
      goes = record { first = omega (arith, g.says.1); second = omega arith; says = (omega arith, omega (arith, whole, g.says.1)) };
      same_high = ap (λ (y : ℕ). y / 256 % 256) again ∙ high-of a b (omega (arith, g.first)) g.second;
      same_low = ap (λ (y : ℕ). y % 256) again ∙ low_of a b g.second;
    }

pub returns : (from : Form) (a b : ℕ) → Goes from a b → Returns from a b
returns = each_form (λ (from : Form). (a b : ℕ) → Goes from a b → Returns from a b) forward back
