-- Laws of gate writing.
use mathlib.Core.Path.{◌≡◌}
use mathlib.Core.List.{List, ◌∷◌}
use Prim.Native.Nat.{ℕ, ◌-◌, ◌^◌, ◌≤◌, ◌<◌}
use native.Mathlib.Omega.{arith}
use borrow.Author.Tests.{ltb-false}
use lib.ListN.{get_or, drop}
use Rattle.numbers.proofs.FieldLaws.{Bytes}
use Rattle.framing.specs.Refusals.{untold}
use Rattle.framing.proofs.RefusalLaws.{or_else-first, or_else_then, refuse-none}
use Rattle.profiles.specs.Writing.{widths_refusal, entry_refusal}
use Rattle.profiles.proofs.WritingLaws.{widths_none, widths_fit, entry-ruled}
use Rattle.gates.specs.Gates.{gate_profile_with, behind_first, last_number, last_suffix, last_class, last_whistle, gate_rules, gate_refusal}
use Rattle.gates.proofs.GateLaws.{regular}

-- what the rules allow
record Allowed (number suffix class whistle : ℕ) : Type 0 where
  number_most : number ≤ last_number
  suffix_most : suffix ≤ last_suffix
  class_most : class ≤ last_class
  whistle_most : whistle ≤ last_whistle

allowed : (distance number suffix class whistle : ℕ) → (gate_rules distance number suffix class whistle).number ≡ 0 → Allowed number suffix class whistle
unfolding gate_rules
allowed distance number suffix class whistle e =
    let e₁ = or_else_then _ _ e in
    let e₂ = or_else_then _ _ e₁ in
    let e₃ = or_else_then _ _ e₂ in
    record {
      number_most = ltb-false _ _ (refuse-none _ _ _ (or_else-first _ _ e₁));
      suffix_most = ltb-false _ _ (refuse-none _ _ _ (or_else-first _ _ e₂));
      class_most = ltb-false _ _ (refuse-none _ _ _ (or_else-first _ _ e₃));
      whistle_most = ltb-false _ _ (refuse-none _ _ _ (or_else_then _ _ e₃));
    }

-- the rules' limits lie below the widths: past the pieces that have no limit the rules decide
module _ (distance : ℕ) (wide : 8 ≤ distance) (list : List ℕ) (hs : Bytes list) (high : get_or list 0 0 < 2 ^ (distance - 8)) (manning : get_or list 5 0 < 2) (whistling : get_or list 7 0 < 2) where
  widths_ruled : (gate_refusal distance list).number ≡ 0 → (widths_refusal ((distance - 8) ∷ behind_first) list).number ≡ 0
  unfolding gate_refusal
  widths_ruled e =
      let a = allowed _ _ _ _ _ e in
      widths_fit _ _ list 0 high
      (widths_fit _ _ list 1 (hs 1)
      (widths_fit _ _ list 2 (omega arith)
      (widths_fit _ _ list 3 (hs 3)
      (widths_fit _ _ list 4 (omega arith)
      (widths_fit _ _ list 5 manning
      (widths_fit _ _ list 6 (omega arith) (widths_fit _ _ list 7 whistling (widths_fit _ _ list 8 (omega arith) (widths_none (drop 9 list))))))))))

  pub gate-ruled : untold (gate_refusal distance list) ≡ entry_refusal (gate_profile_with distance) list
  gate-ruled = entry-ruled (gate_profile_with distance) (regular distance wide) list widths_ruled
