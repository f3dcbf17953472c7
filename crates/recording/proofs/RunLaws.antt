-- A record that is run, and one that is not.
use mathlib.Core.Bool.{Bool, true, false, cond}
use mathlib.Core.Path.{◌≡◌, refl, sym, ap, ◌∙◌}
use mathlib.Core.List.{List}
use Prim.Native.Nat.{ℕ}
use Rattle.replay.specs.Demand3.{Call, op, back}
use Rattle.rules.specs.Rules.{Op}
use Rattle.rules.specs.Refusals.{bad_record}
use Rattle.rules.specs.Ruling.{refused_with}
use Rattle.rules.specs.declared.ruling.Answer.{Answer}
use Rattle.session.proofs.AfterLaws.{refused-bytes}
use Rattle.stepback.proofs.BackLaws.{refused-back}
use Rattle.standing.specs.Said.{answer_by}
use Rattle.standing.proofs.SaidLaws.{said-refused, said-whole}
use Rattle.standing.specs.Standing.{answered, bytes_left}
use Rattle.records.specs.Form.{kind_of, record_length, is_run, call_of}
use Rattle.records.specs.Told.{not_run, run_with}
use Rattle.records.specs.declared.told.Ran.{Ran}
use Rattle.records.proofs.FormLaws.{record_kind, run_record}
use Rattle.recording.specs.Running.{ran_record, bytes_after_record}
use Rattle.recording.proofs.GroundLaws.{answered-other}
use Rattle.recording.proofs.CallLaws.{Called}

-- what a call answers that is refused
plain : (bs : List ℕ) (c : Call Op) → ((answered bs c).answer ≡ 0 → ⊥) → answered bs c ≡ refused_with (answered bs c).answer
unfolding answer_by
plain bs c h = sym (said-whole bs c) ∙ ap answer_by (said-refused c (answered bs c) h)

-- and the bytes that it leaves
same : (bs : List ℕ) (c : Call Op) → ((answered bs c).answer ≡ 0 → ⊥) → bytes_left bs c ≡ bs
unfolding answered bytes_left
same bs (op o) h = refused-bytes bs o h
same bs (back k) h = refused-back bs k h

-- what running tells, where it is known whether the record is run
abbrev ran_if : Bool → List ℕ → List ℕ → ℕ → Ran
ran_if b bs held before = cond b (run_with before (kind_of held) (record_length held) (answered bs (call_of held))) (not_run before)

module _ (bs held : List ℕ) (before : ℕ) where
  pub not_run_lem : is_run held before ≡ false → (not_run before ≡ ran_record bs held before) × (bs ≡ bytes_after_record bs held before)
  unfolding ran_record bytes_after_record
  not_run_lem e = (
    sym (λ i. ran_if (e i) bs held before),
    sym (λ i. cond (e i) (bytes_left bs (call_of held)) bs),
  )

  -- so a record that is not run is told by the bytes that it used: none
  pub not_run-used : is_run held before ≡ false → (ran_record bs held before).used ≡ 0
  not_run-used e = ap (λ (r : Ran). r.used) (sym (not_run_lem e).0)

  pub is-run : {a : Answer} {after : List ℕ} → is_run held before ≡ true → Called bs (call_of held) a after
      → (run_with before (kind_of held) (record_length held) a ≡ ran_record bs held before) × (after ≡ bytes_after_record bs held before)
  unfolding ran_record bytes_after_record
  is-run e made = (
    ap (run_with before (kind_of held) (record_length held)) made.0
        ∙ sym (λ i. ran_if (e i) bs held before),
    made.1 ∙ sym (λ i. cond (e i) (bytes_left bs (call_of held)) bs),
  )

  -- and one that is run by those that it used: the record's
  pub run-used : is_run held before ≡ true → (ran_record bs held before).used ≡ record_length held
  run-used e = ap (λ (r : Ran). r.used) (sym (is-run e (refl, refl)).0)

  -- 24 is answered exactly where the record is not run
  pub run-answer : is_run held before ≡ true → (ran_record bs held before).answer ≡ bad_record → ⊥
  run-answer e z = answered-other bs (call_of held) (ap (λ (r : Ran). r.answer) (is-run e (refl, refl)).0 ∙ z)

  -- and its line has kind 0 exactly where it is not run
  pub run-kind : is_run held before ≡ true → (ran_record bs held before).kind ≡ 0 → ⊥
  run-kind e z = record_kind held (run_record held before e) (ap (λ (r : Ran). r.kind) (is-run e (refl, refl)).0 ∙ z)

  -- EVERY REFUSAL has zeros for its three numbers
  pub refusal-plain : ((ran_record bs held before).answer ≡ 0 → ⊥)
      → ran_record bs held before ≡ run_with before (ran_record bs held before).kind (ran_record bs held before).used (refused_with (ran_record bs held before).answer)
  unfolding ran_record
  refusal-plain h = of (is_run held before) h
    where
      of : (b : Bool) → ((ran_if b bs held before).answer ≡ 0 → ⊥) → ran_if b bs held before ≡ run_with before (ran_if b bs held before).kind (ran_if b bs held before).used (refused_with (ran_if b bs held before).answer)
      of true n = ap (run_with before (kind_of held) (record_length held)) (plain bs (call_of held) n)
      of false n = refl

  -- and changes no byte
  pub refusal_same : ((ran_record bs held before).answer ≡ 0 → ⊥) → bytes_after_record bs held before ≡ bs
  unfolding ran_record bytes_after_record
  refusal_same h = of (is_run held before) h
    where
      of : (b : Bool) → ((ran_if b bs held before).answer ≡ 0 → ⊥) → cond b (bytes_left bs (call_of held)) bs ≡ bs
      of true n = same bs (call_of held) n
      of false n = refl
