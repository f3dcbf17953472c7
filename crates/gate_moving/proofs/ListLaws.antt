-- Laws of a list of gates whose distances are restated: the writer takes it in the other form, and restated again it is the same list.
use mathlib.Core.Path.{◌≡◌, refl, sym, ap, ap₂, ◌∙◌}
use mathlib.Core.List.{List, [], ◌∷◌, ◌++◌}
use Prim.Native.Nat.{ℕ, zero, suc, ◌+◌, ◌-◌, ◌*◌, ◌^◌, ◌≤◌, ◌<◌}
use native.Mathlib.Omega.{arith}
use lib.ListN.{length, get_or, take, drop, length-append, length-drop, take-append-drop, get_or-append}
use lib.Seq.{length-take-le, take_at, drop_at, drop-drop, get_or-take, get_or-drop}
use Rattle.framing.proofs.RefusalLaws.{same_number, or_else-first, or_else_then, or_else_go}
use Rattle.profiles.specs.Writing.{entry_refusal, list_refusal}
use Rattle.profiles.proofs.WritingLaws.{widths_each, widths_all}
use Rattle.gates.specs.Gates.{gate_bytes, gate_bits, behind_first, gate_rules, gate_refusal}
use Rattle.gates.specs.Forms.{layout_of, other_form, profile_in}
use Rattle.gates.specs.declared.forms.Form.{Form}
use Rattle.gates.proofs.GateLaws.{rules-number}
use Rattle.gate_moving.specs.Moving.{metres_of, distance_refusal, distances_refusal, restated}
use Rattle.gate_moving.proofs.DistanceLaws.{Goes, Returns, high, low, not_refused, said, returns}

-- ---- one gate

-- a gate that a list starts with, its distance replaced: what else it has, and what comes behind it
module _ (list : List ℕ) (long : gate_bytes ≤ length list) where
  abbrev rest : List ℕ
  rest = take 7 (drop 2 list)

  length_rest : length rest ≡ 7
  length_rest = length-take-le 7 (drop 2 list) (rw length-drop (omega arith))

  -- all bytes but the first two are the same
  rest_at : (more : List ℕ) (k : ℕ) → k < 7 → get_or (rest ++ more) k 0 ≡ get_or list (suc (suc k)) 0
  rest_at more k h =
      let two : 2 + k ≡ suc (suc k) = omega arith in
      get_or-append rest more 0 k (omega (arith, length_rest)) ∙ get_or-take 7 (drop 2 list) k 0 h ∙ get_or-drop 2 list k 0 ∙ ap (λ (i : ℕ). get_or list i 0) two

  -- with its own two bytes it is the list again
  whole_again : (a b : ℕ) → a ≡ get_or list 0 0 → b ≡ get_or list 1 0 → a ∷ b ∷ (rest ++ drop gate_bytes list) ≡ list
  whole_again a b ea eb =
      ap (λ (l : List ℕ). a ∷ b ∷ (rest ++ l)) (sym (drop-drop 7 2 list)) ∙ ap (λ (l : List ℕ). a ∷ b ∷ l) (take-append-drop 7 (drop 2 list)) ∙ of list long ea eb
    where
      of : (l : List ℕ) → gate_bytes ≤ length l → a ≡ get_or l 0 0 → b ≡ get_or l 1 0 → a ∷ b ∷ drop 2 l ≡ l
      of [] h x y = absurd (omega arith)
      of (c ∷ []) h x y = absurd (omega arith)
      of (c ∷ d ∷ l) h x y = ap₂ (λ (u v : ℕ). u ∷ v ∷ l) x y

module _ (from : Form) where
  abbrev to : Form
  to = other_form from

  module _ (list : List ℕ) (long : gate_bytes ≤ length list) (right : (entry_refusal (profile_in from) list).number ≡ 0) (p : ℕ)
      (fits : (distance_refusal to p (metres_of from list)).number ≡ 0) where
    abbrev a : ℕ
    a = get_or list 0 0

    abbrev b : ℕ
    b = get_or list 1 0

    fitting : (k : ℕ) → k < 9 → get_or list k 0 < 2 ^ get_or (((layout_of from).distance - 8) ∷ behind_first) k 0
    unfolding entry_refusal
    fitting = widths_each (((layout_of from).distance - 8) ∷ behind_first) list (or_else-first _ _ right)

    goes : Goes from a b
    goes = record { first = fitting 0 (omega arith); second = fitting 1 (omega arith); says = not_refused to p (metres_of from list) fits }

    comes : Returns from a b
    comes = returns from a b goes

    module _ (more : List ℕ) where
      abbrev moved : List ℕ
      moved = high from a b ∷ low from a b ∷ (rest list long ++ more)

      -- the gate is as wide as its fields in the other form, and allowed there
      wide_at : (k : ℕ) → k < 9 → get_or moved k 0 < 2 ^ get_or (((layout_of to).distance - 8) ∷ behind_first) k 0
      wide_at zero h = comes.goes.first
      wide_at (suc zero) h = comes.goes.second
      wide_at (suc (suc k)) h = rw (rest_at list long more k (omega arith)) (fitting (suc (suc k)) h)

      ruled : (gate_refusal (layout_of to).distance moved).number ≡ 0
      unfolding gate_refusal entry_refusal
      ruled =
          let at : (k : ℕ) → k < 7 → get_or (rest list long ++ more) k 0 ≡ get_or list (suc (suc k)) 0 = rest_at list long more in
          same_number (λ i. gate_rules (layout_of to).distance (at 0 (omega arith) i * 256 + at 1 (omega arith) i) (at 2 (omega arith) i) (at 4 (omega arith) i) (at 6 (omega arith) i))
          ∙ rules-number (layout_of to).distance (layout_of from).distance _ _ _ _
          ∙ or_else_then _ _ right

      entry-taken : (entry_refusal (profile_in to) moved).number ≡ 0
      unfolding entry_refusal
      entry-taken = same_number (or_else_go _ _ (widths_all (((layout_of to).distance - 8) ∷ behind_first) moved wide_at)) ∙ ruled

      distance_taken : (q : ℕ) → (distance_refusal (other_form to) q (metres_of to moved)).number ≡ 0
      distance_taken q = same_number (sym (said (other_form to) q (metres_of to moved) comes.goes.says))

  -- ---- the whole list

  module _ where
    -- it keeps its length
    pub length-restated : (list : List ℕ) (n : ℕ) → gate_bytes * n ≤ length list → length (restated from list n) ≡ length list
    unfolding restated
    length-restated list zero h = refl
    length-restated list (suc n) h =
        let behind : length (restated from (drop gate_bytes list) n) ≡ length (drop gate_bytes list) = length-restated (drop gate_bytes list) n (rw length-drop (omega arith)) in
        rw (length-append, behind, length_rest list (omega arith), length-drop) (omega arith)

  -- where nothing refuses the gates in their own form, nor their distances
  module _ where
    -- the writer takes them in the other form
    pub list-taken : (list : List ℕ) (p n : ℕ) → gate_bytes * n ≤ length list → (list_refusal (profile_in from) list n).number ≡ 0
        → (distances_refusal from p list n).number ≡ 0 → (list_refusal (profile_in to) (restated from list n) n).number ≡ 0
    unfolding list_refusal distances_refusal restated
    list-taken list p zero h e d = refl
    list-taken list p (suc n) h e d =
        let long : gate_bytes ≤ length list = omega arith in
        let more : List ℕ = restated from (drop gate_bytes list) n in
        let behind : drop 7 (rest list long ++ more) ≡ more = drop_at (rest list long) more 7 (length_rest list long) in
        same_number (or_else_go _ _ (entry-taken list long (or_else-first _ _ e) p (or_else-first _ _ d) more))
        ∙ same_number (ap (λ (l : List ℕ). list_refusal (profile_in to) l n) behind)
        ∙ list-taken (drop gate_bytes list) (p + gate_bits (layout_of from).distance) n (rw length-drop (omega arith)) (or_else_then _ _ e) (or_else_then _ _ d)

    -- their distances can be moved again
    pub distances-taken : (list : List ℕ) (p q n : ℕ) → gate_bytes * n ≤ length list → (list_refusal (profile_in from) list n).number ≡ 0
        → (distances_refusal from p list n).number ≡ 0 → (distances_refusal to q (restated from list n) n).number ≡ 0
    unfolding list_refusal distances_refusal restated
    distances-taken list p q zero h e d = refl
    distances-taken list p q (suc n) h e d =
        let long : gate_bytes ≤ length list = omega arith in
        let more : List ℕ = restated from (drop gate_bytes list) n in
        let behind : drop 7 (rest list long ++ more) ≡ more = drop_at (rest list long) more 7 (length_rest list long) in
        same_number (or_else_go _ _ (distance_taken list long (or_else-first _ _ e) p (or_else-first _ _ d) more q))
        ∙ same_number (ap (λ (l : List ℕ). distances_refusal to (q + gate_bits (layout_of to).distance) l n) behind)
        ∙ distances-taken (drop gate_bytes list) (p + gate_bits (layout_of from).distance) (q + gate_bits (layout_of to).distance) n (rw length-drop (omega arith)) (or_else_then _ _ e) (or_else_then _ _ d)

    -- and then they are the same again
    pub restated_again : (list : List ℕ) (p n : ℕ) → gate_bytes * n ≤ length list → (list_refusal (profile_in from) list n).number ≡ 0
        → (distances_refusal from p list n).number ≡ 0 → restated to (restated from list n) n ≡ list
    unfolding list_refusal distances_refusal restated
    restated_again list p zero h e d = refl
    restated_again list p (suc n) h e d =
        let long : gate_bytes ≤ length list = omega arith in
        let more : List ℕ = restated from (drop gate_bytes list) n in
        let front : take 7 (rest list long ++ more) ≡ rest list long = take_at (rest list long) more 7 (length_rest list long) in
        let behind : drop 7 (rest list long ++ more) ≡ more = drop_at (rest list long) more 7 (length_rest list long) in
        let r = comes list long (or_else-first _ _ e) p (or_else-first _ _ d) in
        let again : restated to (drop 7 (rest list long ++ more)) n ≡ drop gate_bytes list =
        ap (λ (l : List ℕ). restated to l n) behind
        ∙ restated_again (drop gate_bytes list) (p + gate_bits (layout_of from).distance) n (rw length-drop (omega arith)) (or_else_then _ _ e) (or_else_then _ _ d) in
        (λ i. r.same_high i ∷ r.same_low i ∷ (front i ++ again i)) ∙ whole_again list long _ _ refl refl
