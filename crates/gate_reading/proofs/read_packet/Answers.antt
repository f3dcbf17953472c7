-- `gate_reading::read_packet` meets its contract: the law for each way out.
use Prim.Native.Nat.{ℕ, ◌*◌}
use mathlib.Core.Path.{◌≡◌, refl, sym, ap, ◌∙◌}
use mathlib.Core.List.{List}
use native.Mathlib.Omega.{arith}
use lib.ListN.{length}
use lib.Seq.{sets}
use Rattle.framing.specs.Refusals.{none, or_else}
use Rattle.framing.specs.Told.{told}
use Rattle.framing.proofs.RefusalLaws.{same_number, unless-none, unless-some}
use Rattle.framing.proofs.ToldLaws.{ground-some, handed_out, handed-some, goes_on, passed}
use Rattle.profiles.specs.Profiles.{count_of, rules_refusal}
use Rattle.profiles.specs.Reading.{entries_of, bits_of, shape_refusal, end_refusal, read_refusal}
use Rattle.gates.specs.Gates.{gate_type, distance_width, gate_bytes, gate_profile}
use Rattle.gates.specs.Forms.{layout_of}
use Rattle.gate_reading.proofs.ReadingLaws.{gates_entries, gates_bits, gates_refusal}
use Rattle.gate_reading.proofs.read_packet.Goals.{After-judge_shape, After-take_gates}
use Rattle.gate_reading.proofs.read_packet.Goals as goal

-- what is judged before the gates
shape_eq : (c : After-judge_shape) → told c.judge_shape.result ≡ shape_refusal gate_type c.args.s.now (bits_of gate_profile c.args.s.now)
shape_eq c = let s : List ℕ = c.args.s.now in
    c.judge_shape.ensures
    ∙ ap (shape_refusal gate_type s) (c.bits_of-bits.ensures.0 ∙ gates_bits distance_width s (omega arith) c.count_of-count.result c.count_of-count.ensures.0)

-- the gates taken, as entries
module _ (c : After-take_gates) where
  abbrev s : List ℕ
  s = c.args.s.now

  abbrev o : List ℕ
  o = c.args.out.now

  clear : none ≡ shape_refusal gate_type s (bits_of gate_profile s)
  clear = ap told (sym c.in_ok-judge_shape.was) ∙ shape_eq (goal.at.After-take_gates c).After-judge_shape

  taken_eq : told c.take_gates.result
      ≡ or_else (rules_refusal gate_profile 16 (entries_of gate_profile s) (count_of gate_profile s)) (end_refusal s (bits_of gate_profile s) (gate_bytes * count_of gate_profile s) (length o))
  unfolding layout_of
  taken_eq = c.take_gates.ensures.value ∙ gates_refusal distance_width s (omega arith) c.count_of-count.result c.count_of-count.ensures.0 (length o)

pub returns-in_err-judge_shape-clause-value : goal.returns-in_err-judge_shape-clause-value
unfolding read_refusal
returns-in_err-judge_shape-clause-value c =
    handed_out _ _ _ _ c.from_residual.ensures.1 (ap told (sym c.in_err-judge_shape.was) ∙ shape_eq (goal.at.returns-in_err-judge_shape-clause-value c).After-judge_shape)

pub returns-in_err-judge_shape-clause-out_after : goal.returns-in_err-judge_shape-clause-out_after
returns-in_err-judge_shape-clause-out_after c = sym (handed-some _ _ _ _ c.from_residual.ensures.1)

pub returns-in_err-take_gates-clause-value : goal.returns-in_err-take_gates-clause-value
unfolding read_refusal
returns-in_err-take_gates-clause-value c = let e = (goal.at.returns-in_err-take_gates-clause-value c).After-take_gates in
    goes_on _ _ (clear e) (passed _ _ c.from_residual-in_err-take_gates.ensures.1 ∙ ap told (sym c.in_err-take_gates.was) ∙ taken_eq e)

pub returns-in_err-take_gates-clause-out_after : goal.returns-in_err-take_gates-clause-out_after
returns-in_err-take_gates-clause-out_after c =
    c.take_gates.ensures.out_after
    ∙ unless-some _ _ _ (λ z. ground-some _ (sym (same_number (ap told c.in_err-take_gates.was)) ∙ z))
    ∙ sym (handed-some _ _ _ _ c.from_residual-in_err-take_gates.ensures.1)

pub returns : goal.returns
unfolding read_refusal layout_of
returns c = let e = (goal.at.returns c).After-take_gates in record {
  value = goes_on _ _ (clear e) (ap told (sym c.in_ok-take_gates.was) ∙ taken_eq e);
  count = c.count_of-count.ensures.0;
  out_after = c.take_gates.ensures.out_after
      ∙ unless-none _ _ _ (same_number (ap told c.in_ok-take_gates.was))
      ∙ ap (sets (o e) 0) (gates_entries distance_width (s e) (omega arith) c.count_of-count.result c.count_of-count.ensures.0)
      ∙ sym (unless-none _ _ _ refl);
}
