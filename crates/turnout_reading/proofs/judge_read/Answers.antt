-- `turnout_reading::judge_read` meets its contract: the law for each way out.
use Prim.Native.Nat.{ℕ, ◌*◌}
use mathlib.Core.Path.{◌≡◌, ap, ◌∙◌}
use mathlib.Core.List.{List}
use Rattle.framing.proofs.ToldLaws.{passed, stops, goes_on}
use Rattle.profiles.specs.Profiles.{count_of, rules_refusal}
use Rattle.profiles.specs.Reading.{first_entries, entries_of, bits_of, shape_refusal, end_refusal, read_refusal}
use Rattle.profiles.specs.Places.{entry_at}
use Rattle.turnouts.specs.Turnouts.{turnout_profile, turnout_type, turnout_bytes}
use Rattle.turnout_reading.proofs.judge_read.Goals as goal

-- with the count and the bits that were found, the grounds are the profile's
module _ (s : List ℕ) (room : ℕ) {n bits : ℕ} (counted : n ≡ count_of turnout_profile s) (ends : bits ≡ entry_at turnout_profile s 13 n) where
  all : bits ≡ entry_at turnout_profile s 13 (count_of turnout_profile s)
  all = ends ∙ ap (entry_at turnout_profile s 13) counted

  shape : shape_refusal turnout_type s bits ≡ shape_refusal turnout_type s (bits_of turnout_profile s)
  unfolding bits_of
  shape = ap (shape_refusal turnout_type s) all

  rules : rules_refusal turnout_profile 13 (first_entries turnout_profile s n) n ≡ rules_refusal turnout_profile 13 (entries_of turnout_profile s) (count_of turnout_profile s)
  unfolding entries_of
  rules = ap (λ (k : ℕ). rules_refusal turnout_profile 13 (first_entries turnout_profile s k) k) counted

  end : end_refusal s bits (turnout_bytes * n) room ≡ end_refusal s (bits_of turnout_profile s) (turnout_bytes * count_of turnout_profile s) room
  unfolding bits_of
  end = λ i. end_refusal s (all i) (turnout_bytes * counted i) room

pub returns-in_err-judge_shape : goal.returns-in_err-judge_shape
unfolding read_refusal
returns-in_err-judge_shape c =
    let a = c.args in
    passed _ _ c.from_residual.ensures.1 ∙ stops _ _ _ (c.in_err-judge_shape.ensures ∙ shape a.s.now a.room c.count_of-n.ensures.0 c.bits_of-bits.ensures.0)

pub returns-in_err-judge_rules : goal.returns-in_err-judge_rules
unfolding read_refusal
returns-in_err-judge_rules c =
    let a = c.args in
    passed _ _ c.from_residual-in_err-judge_rules.ensures.1
    ∙ goes_on _ _ (c.in_ok-judge_shape.ensures ∙ shape a.s.now a.room c.count_of-n.ensures.0 c.bits_of-bits.ensures.0)
    (stops _ _ _ (c.in_err-judge_rules.ensures ∙ rules a.s.now a.room c.count_of-n.ensures.0 c.bits_of-bits.ensures.0))

pub returns : goal.returns
unfolding read_refusal
returns c =
    let a = c.args in
    goes_on _ _ (c.in_ok-judge_shape.ensures ∙ shape a.s.now a.room c.count_of-n.ensures.0 c.bits_of-bits.ensures.0)
    (goes_on _ _ (c.in_ok-judge_rules.ensures ∙ rules a.s.now a.room c.count_of-n.ensures.0 c.bits_of-bits.ensures.0)
    (c.judge_end.ensures ∙ end a.s.now a.room c.count_of-n.ensures.0 c.bits_of-bits.ensures.0))
