-- `gate_reading::take_gates` meets its contract: everything is judged first, and stored afterwards.
use Prim.Native.Nat.{ℕ, ◌*◌, ◌≤◌}
use mathlib.Core.Path.{◌≡◌, refl, sym, ap, ◌∙◌}
use mathlib.Core.List.{List}
use native.Mathlib.Omega.{arith}
use lib.ListN.{length, take, replicate}
use lib.Seq.{sets, length-take-le}
use Rattle.framing.specs.Refusals.{Refusal, none}
use Rattle.framing.specs.Told.{told}
use Rattle.framing.proofs.RefusalLaws.{same_number, unless-none}
use Rattle.framing.proofs.ToldLaws.{handed_out, handed-some, goes_on, passed}
use Rattle.profiles.specs.Profiles.{rules_refusal}
use Rattle.profiles.specs.Reading.{end_refusal}
use Rattle.profiles.proofs.ReadingLaws.{end-room}
use Rattle.gates.specs.Gates.{gate_bytes, bits_with}
use Rattle.gates.specs.Forms.{layout_of, profile_in}
use Rattle.gates.specs.declared.forms.Layout.{Layout}
use Rattle.gates.proofs.GateLaws.{form_wide, form_narrow}
use Rattle.gate_reading.specs.Steps.{first_gates, spread}
use Rattle.gate_reading.proofs.ReadingLaws.{loaded, none-taken}
use Rattle.gate_reading.proofs.take_gates.Goals.{After-judge_gates, After-judge_end}
use Rattle.gate_reading.proofs.take_gates.Goals as goal

-- the gates of the sub-packet are those that were kept
module _ (c : After-judge_gates) where
  abbrev d : ℕ
  d = (layout_of c.args.form).distance

  abbrev s : List ℕ
  s = c.args.s.now

  lent : length {A = ℕ} (take c.args.n (replicate 31 0)) ≡ c.args.n
  lent = length-take-le c.args.n (replicate 31 0) (omega arith)

  many : length c.load_gates.new.kept ≡ c.args.n
  many = c.load_gates.auto.kept ∙ lent

  bytes_eq : spread c.load_gates.new.kept ≡ first_gates d s c.args.n
  bytes_eq = ap spread c.load_gates.ensures ∙ loaded d s _ (form_wide c.args.form) (form_narrow c.args.form) ∙ ap (first_gates d s) lent

  abbrev rules : Refusal
  rules = rules_refusal (profile_in c.args.form) 16 (first_gates d s c.args.n) c.args.n

  rules_eq : told c.judge_gates.result ≡ rules
  rules_eq = c.judge_gates.ensures ∙ (λ i. rules_refusal (profile_in c.args.form) 16 (bytes_eq i) (many i))

-- the refusal behind the gates
module _ (c : After-judge_end) where
  abbrev before : After-judge_gates
  before = (goal.at.After-judge_end c).After-judge_gates

  abbrev end_of : Refusal
  end_of = end_refusal c.args.s.now (bits_with (d before) c.args.n) (gate_bytes * c.args.n) (length c.args.out.now)

  end_eq : told c.judge_end.result ≡ end_of
  end_eq =
      c.judge_end.ensures
      ∙ ap (λ (bits : ℕ). end_refusal c.args.s.now bits (gate_bytes * c.args.n) (length c.args.out.now))
      (c.bits_of-bits.ensures.0 ∙ ap (λ (l : Layout). bits_with l.distance c.args.n) c.layout.ensures)

pub returns-then-n-eq0 : goal.returns-then-n-eq0
returns-then-n-eq0 c = let a = c.args in
    let both = none-taken (layout_of a.form).distance a.s.now a.n a.out.now c.if-n-eq0.true in
    record {
      value = both.0;
      out_after = both.1;
    }

pub returns-in_err-judge_gates : goal.returns-in_err-judge_gates
returns-in_err-judge_gates c = record {
  value = handed_out _ _ _ _ c.from_residual.ensures.1 (ap told (sym c.in_err-judge_gates.was) ∙ rules_eq (goal.at.returns-in_err-judge_gates c).After-judge_gates);
  out_after = sym (handed-some _ _ _ _ c.from_residual.ensures.1);
}

-- where the rules refuse nothing
rules-none : (c : After-judge_end) → none ≡ rules (before c)
rules-none c = ap told (sym c.in_ok-judge_gates.was) ∙ rules_eq (before c)

pub returns-in_err-judge_end : goal.returns-in_err-judge_end
returns-in_err-judge_end c = let e = (goal.at.returns-in_err-judge_end c).After-judge_end in record {
  value = goes_on _ _ (rules-none e) (passed _ _ c.from_residual-in_err-judge_end.ensures.1 ∙ ap told (sym c.in_err-judge_end.was) ∙ end_eq e);
  out_after = sym (handed-some _ _ _ _ c.from_residual-in_err-judge_end.ensures.1);
}

pub fill_gates-requires : goal.fill_gates-requires
fill_gates-requires c = let e = (goal.at.fill_gates-requires c).After-judge_end in
    let a = c.args in
    let clear : none ≡ end_of e = ap told (sym c.in_ok-judge_end.was) ∙ end_eq e in
    let fits : gate_bytes * a.n ≤ length a.out.now = end-room a.s.now (bits_with (d (before e)) a.n) (gate_bytes * a.n) (length a.out.now) (sym (same_number clear)) in
    (omega (arith, many (before e)), omega (arith, many (before e)))

pub returns : goal.returns
returns c = let e = (goal.at.returns c).After-judge_end in record {
  value = goes_on _ _ (rules-none e) (ap told (sym c.in_ok-judge_end.was) ∙ end_eq e);
  out_after = c.fill_gates.ensures ∙ ap (sets _ 0) (bytes_eq (before e)) ∙ sym (unless-none _ _ _ refl);
}
