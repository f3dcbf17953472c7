-- Which distance refuses a move, by the bits of the sub-packet: the first that the other form cannot say, or none.
use mathlib.Core.Path.{◌≡◌, refl, sym, ap, subst, ◌∙◌}
use mathlib.Core.List.{List}
use Prim.Native.Nat.{ℕ, zero, suc, ◌+◌, ◌*◌, ◌<◌}
use native.Mathlib.Nat.{mul-zero, mul-suc, add-zero}
use native.Mathlib.Decide.{ℕ_discrete}
use native.Mathlib.Omega.{arith}
use lib.ListN.{drop}
use Rattle.numbers.specs.Fields.{field}
use Rattle.numbers.specs.Pieces.{times, unpack}
use Rattle.framing.specs.Refusals.{none, or_else}
use Rattle.framing.specs.Refusals.{Refusal}
use Rattle.framing.proofs.RefusalLaws.{same_number, or_else-first, or_else_then, or_else_go, or_else-stop}
use Rattle.profiles.proofs.ProfileLaws.{drop-entry}
use Rattle.gates.specs.Gates.{gate_bytes, gate_bits, gate_widths}
use Rattle.gates.specs.Forms.{layout_of, other_form, profile_in}
use Rattle.gates.specs.declared.forms.Form.{Form}
use Rattle.gates.proofs.GateLaws.{regular_in, form_wide, total-gate}
use Rattle.gate_reading.proofs.ReadingLaws.{distance_split}
use Rattle.gate_moving.specs.Moving.{metres_of, distance_refusal, distances_refusal}
use Rattle.gate_moving.proofs.DistanceLaws.{Says, not_refused, said, only_six}

module _ (from : Form) (s : List ℕ) where
  abbrev to : Form
  to = other_form from

  abbrev width : ℕ
  width = (layout_of from).distance

  abbrev bits : ℕ
  bits = gate_bits width

  -- the metres of the distance that starts at bit p
  abbrev metres_at : ℕ → ℕ
  metres_at p = field s p width * (layout_of from).unit

  -- n gates from bit p on
  abbrev gates : ℕ → ℕ → List ℕ
  gates p n = unpack s p (times n (gate_widths width))

  first_metres : (p n : ℕ) → metres_of from (gates p (suc n)) ≡ metres_at p
  unfolding unpack times gate_widths
  first_metres p n = ap (λ (d : ℕ). d * (layout_of from).unit) (sym (distance_split width s p (form_wide from)))

  further : (p n : ℕ) → drop gate_bytes (gates p (suc n)) ≡ gates (p + bits) n
  unfolding times gate_widths
  further p n =
      drop-entry (profile_in from) (regular_in from) s p 0 (times n (gate_widths width))
      ∙ ap (λ (k : ℕ). unpack s (p + k) (times n (gate_widths width))) (total-gate width (form_wide from))

  -- the first gate, and those behind it
  refusal-suc : (p n : ℕ) → distances_refusal from p (gates p (suc n)) (suc n)
      ≡ or_else (distance_refusal to p (metres_at p)) (distances_refusal from (p + bits) (gates (p + bits) n) n)
  unfolding distances_refusal
  refusal-suc p n = λ i. or_else (distance_refusal to p (first_metres p n i)) (distances_refusal from (p + bits) (further p n i) n)

  here : (p : ℕ) → p + bits * 0 ≡ p
  here p = ap (λ (k : ℕ). p + k) (mul-zero bits) ∙ add-zero p

  there : (p i : ℕ) → p + bits * suc i ≡ p + bits + bits * i
  there p i = omega (arith, mul-suc bits i)

  -- all distances are said
  pub all_said : (p n : ℕ) → ((i : ℕ) → i < n → Says to (metres_at (p + bits * i))) → distances_refusal from p (gates p n) n ≡ none
  unfolding distances_refusal
  all_said p zero says = refl
  all_said p (suc n) says =
      refusal-suc p n
      ∙ or_else_go _ _ (same_number (sym (said to p (metres_at p) (subst (λ (q : ℕ). Says to (metres_at q)) (here p) (says 0 (omega arith))))))
      ∙ all_said (p + bits) n (λ i l. subst (λ (q : ℕ). Says to (metres_at q)) (there p i) (says (suc i) (omega arith)))

  -- and where nothing is refused they are
  pub each_said : (p n : ℕ) → (distances_refusal from p (gates p n) n).number ≡ 0 → (i : ℕ) → i < n → Says to (metres_at (p + bits * i))
  each_said p zero e i l = absurd (omega arith)
  each_said p (suc n) e zero l =
      subst (λ (q : ℕ). Says to (metres_at q)) (sym (here p)) (not_refused to p (metres_at p) (or_else-first _ _ (sym (same_number (refusal-suc p n)) ∙ e)))
  each_said p (suc n) e (suc i) l =
      subst (λ (q : ℕ). Says to (metres_at q)) (sym (there p i)) (each_said (p + bits) n (or_else_then _ _ (sym (same_number (refusal-suc p n)) ∙ e)) i (omega arith))

  -- the place is q, of a distance that is not said, and those before it are
  pub record FirstUnsaid (p n q : ℕ) : Type 0 where
    pub gate : ℕ
    pub inside : gate < n
    pub place : q ≡ p + bits * gate
    pub unsaid : Says to (metres_at (p + bits * gate)) → ⊥
    pub before : (i : ℕ) → i < gate → Says to (metres_at (p + bits * i))

  first_unsaid : (p n : ℕ) → (Says to (metres_at p) → ⊥) → FirstUnsaid p (suc n) p
  first_unsaid p n not = record {
    gate = 0;
    inside = omega arith;
    place = sym (here p);
    unsaid = λ says. not (subst (λ (q : ℕ). Says to (metres_at q)) (here p) says);
    before = λ i l. absurd (omega arith);
  }

  further_unsaid : (p n q : ℕ) → Says to (metres_at p) → FirstUnsaid (p + bits) n q → FirstUnsaid p (suc n) q
  further_unsaid p n q says w = record {
    gate = suc w.gate;
    inside = omega (arith, w.inside);
    place = w.place ∙ sym (there p w.gate);
    unsaid = λ it. w.unsaid (subst (λ (k : ℕ). Says to (metres_at k)) (there p w.gate) it);
    before = before;
  }
    where
      before : (i : ℕ) → i < suc w.gate → Says to (metres_at (p + bits * i))
      before zero l = subst (λ (k : ℕ). Says to (metres_at k)) (sym (here p)) says
      before (suc i) l = subst (λ (k : ℕ). Says to (metres_at k)) (sym (there p i)) (w.before i (omega arith))

  pub data DistancesTold (p n : ℕ) (r : Refusal) : Type 0 where
    all_of_them : r ≡ none → DistancesTold p n r
    one_of_them : r.number ≡ 6 → FirstUnsaid p n r.place → DistancesTold p n r

  pub distances-told : (p n : ℕ) → DistancesTold p n (distances_refusal from p (gates p n) n)
  unfolding distances_refusal
  distances-told p zero = all_of_them refl
  distances-told p (suc n) = subst (DistancesTold p (suc n)) (sym (refusal-suc p n)) (of (ℕ_discrete (distance_refusal to p (metres_at p)).number 0) (distances-told (p + bits) n))
    where
      a : Refusal
      a = distance_refusal to p (metres_at p)

      b : Refusal
      b = distances_refusal from (p + bits) (gates (p + bits) n) n

      of : Dec (a.number ≡ 0) → DistancesTold (p + bits) n b → DistancesTold p (suc n) (or_else a b)
      of (yes z) (all_of_them e) = all_of_them (or_else_go a b z ∙ e)
      of (yes z) (one_of_them six w) = subst (DistancesTold p (suc n)) (sym (or_else_go a b z)) (one_of_them six (further_unsaid p n b.place (not_refused to p (metres_at p) z) w))
      of (no ne) t =
          let not : Says to (metres_at p) → ⊥ = λ says. ne (same_number (sym (said to p (metres_at p) says))) in
          subst (DistancesTold p (suc n)) (or_else-stop a b ne)
          (only_six to p (metres_at p) (λ (r : Refusal). (r.number ≡ 0 → ⊥) → DistancesTold p (suc n) r) (λ x. one_of_them refl (first_unsaid p n not)) (λ x. absurd (x refl)) ne)
