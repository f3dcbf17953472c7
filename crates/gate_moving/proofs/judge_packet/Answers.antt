-- `gate_moving::judge_packet` meets its contract: the rules of a read in their order.
use Prim.Native.Nat.{ℕ, ◌*◌}
use mathlib.Core.Path.{◌≡◌, sym, ap, ap₂, ◌∙◌}
use mathlib.Core.List.{List}
use Rattle.framing.specs.Refusals.{none}
use Rattle.framing.specs.Told.{told}
use Rattle.framing.proofs.ToldLaws.{handed_out, goes_on}
use Rattle.profiles.specs.Profiles.{Profile, count_of, rules_refusal}
use Rattle.profiles.specs.Reading.{bits_of, entries_of, shape_refusal, end_refusal, read_refusal}
use Rattle.gates.specs.Gates.{gate_type, gate_bytes, bits_with}
use Rattle.gates.specs.Forms.{layout_of, profile_in}
use Rattle.gates.specs.declared.forms.Layout.{Layout}
use Rattle.gates.proofs.GateLaws.{form_wide}
use Rattle.gate_reading.proofs.ReadingLaws.{gates_bits}
use Rattle.gate_moving.proofs.judge_packet.Goals.{After-judge_shape, After-judge_kept}
use Rattle.gate_moving.proofs.judge_packet.Goals as goal

module _ (c : After-judge_shape) where
  abbrev s : List ℕ
  s = c.args.s.now

  abbrev f : Profile
  f = profile_in c.args.form

  bits : c.bits_of-bits.result ≡ bits_of f s
  bits =
      c.bits_of-bits.ensures.0
      ∙ ap (λ (l : Layout). bits_with l.distance c.count_of-count.result) c.layout.ensures
      ∙ gates_bits (layout_of c.args.form).distance s (form_wide c.args.form) c.count_of-count.result c.count_of-count.ensures.0

  shape_eq : told c.judge_shape.result ≡ shape_refusal gate_type s (bits_of f s)
  shape_eq = c.judge_shape.ensures ∙ ap (shape_refusal gate_type s) bits

pub returns-in_err-judge_shape-clause-value : goal.returns-in_err-judge_shape-clause-value
unfolding read_refusal
returns-in_err-judge_shape-clause-value c =
    handed_out _ _ _ _ c.from_residual.ensures.1 (ap told (sym c.in_err-judge_shape.was) ∙ shape_eq (goal.at.returns-in_err-judge_shape-clause-value c).After-judge_shape)

-- the gates that were kept are the entries
module _ (c : After-judge_kept) where
  abbrev before : After-judge_shape
  before = (goal.at.After-judge_kept c).After-judge_shape

  clear : none ≡ shape_refusal gate_type (s before) (bits_of (f before) (s before))
  clear = ap told (sym c.in_ok-judge_shape.was) ∙ shape_eq before

  rules_eq : told c.judge_kept.result ≡ rules_refusal (f before) 16 (entries_of (f before) (s before)) (count_of (f before) (s before))
  rules_eq = c.judge_kept.ensures ∙ ap (λ (l : List ℕ). rules_refusal (f before) 16 l (count_of (f before) (s before))) c.keep_gates.ensures.1

pub returns-in_err-judge_kept-clause-value : goal.returns-in_err-judge_kept-clause-value
unfolding read_refusal
returns-in_err-judge_kept-clause-value c = let e = (goal.at.returns-in_err-judge_kept-clause-value c).After-judge_kept in
    goes_on _ _ (clear e) (handed_out _ _ _ _ c.from_residual-in_err-judge_kept.ensures.1 (ap told (sym c.in_err-judge_kept.was) ∙ rules_eq e))

pub returns-clause-value : goal.returns-clause-value
unfolding read_refusal
returns-clause-value c = let e = (goal.at.returns-clause-value c).After-judge_kept in
    let end = c.judge_end.ensures ∙ ap₂ (λ (b k : ℕ). end_refusal c.args.s.now b (gate_bytes * k) (gate_bytes * k)) (bits (before e)) c.count_of-count.ensures.0 in
    goes_on _ _ (clear e) (goes_on _ _ (ap told (sym c.in_ok-judge_kept.was) ∙ rules_eq e) end)
