-- What a header that is not refused tells.
use mathlib.Core.Path.{◌≡◌}
use mathlib.Core.List.{List}
use Prim.Native.Nat.{ℕ, ◌≤◌}
use lib.ListN.{length}
use borrow.Author.Tests.{ltb-false}
use Rattle.framing.specs.Framing.{type_of, length_of, head_refusal}
use Rattle.framing.proofs.RefusalLaws.{or_else-first, or_else_then, refuse-none}

pub record Headed (s : List ℕ) (low high : ℕ) : Type 0 where
  pub two : 2 ≤ length s
  pub above : low ≤ type_of s
  pub below : type_of s ≤ high
  pub long : 2 ≤ length_of s
  pub whole : length_of s ≤ length s

pub headed : (s : List ℕ) (low high : ℕ) → (head_refusal s low high).number ≡ 0 → Headed s low high
unfolding head_refusal
headed s low high e =
    let e₁ = or_else_then _ _ e in
    let e₂ = or_else_then _ _ e₁ in
    let e₃ = or_else_then _ _ e₂ in
    record {
      two = ltb-false _ _ (refuse-none _ _ _ (or_else-first _ _ e));
      above = ltb-false _ _ (refuse-none _ _ _ (or_else-first _ _ e₁));
      below = ltb-false _ _ (refuse-none _ _ _ (or_else-first _ _ e₂));
      long = ltb-false _ _ (refuse-none _ _ _ (or_else-first _ _ e₃));
      whole = ltb-false _ _ (refuse-none _ _ _ (or_else_then _ _ e₃));
    }
