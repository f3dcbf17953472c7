-- A LISTING IS READ RECORD BY RECORD: what a loop over the records writes is the listing.
use mathlib.Core.Bool.{Bool, true, false, cond}
use mathlib.Core.Path.{◌≡◌, refl, sym, ap, ap₂, ◌∙◌}
use mathlib.Core.List.{List, [], ◌∷◌, ◌++◌, append_assoc}
use Prim.Native.Nat.{ℕ, zero, suc, ◌+◌, ◌≤◌, ◌<◌}
use native.Mathlib.Omega.{arith}
use borrow.Author.Tests.{ne_eqb}
use lib.ListN.{length, drop, length-drop}
use Rattle.lines.specs.Text.{end_line}
use Rattle.records.specs.Form.{most_records, record_length, is_run}
use Rattle.records.specs.Told.{not_run}
use Rattle.records.specs.declared.told.Ran.{Ran}
use Rattle.records.proofs.FormLaws.{record_head, run-few, run-whole}
use Rattle.turns.specs.Turns.{text_of, one_if_accepted, is_last}
use Rattle.recording.specs.Running.{ran_record, bytes_after_record}
use Rattle.recording.proofs.RunLaws.{not_run_lem, not_run-used, run-used, run-kind}
use Rattle.listing.specs.Listing.{ran_in, ran_all, lines_of, accepted_of, listed_from, left}

-- ---- the bound on the number of records is no bound where it is at least the bytes held

bound_free : (m n : ℕ) (bs held : List ℕ) (before : ℕ) → length held ≤ m → length held ≤ n → ran_in m bs held before ≡ ran_in n bs held before
unfolding ran_in
bound_free zero zero bs [] before h l = refl
bound_free zero (suc n) bs [] before h l = refl
bound_free (suc m) zero bs [] before h l = refl
bound_free (suc m) (suc n) bs [] before h l = refl
bound_free zero n bs (b ∷ more) before h l = absurd (omega arith)
bound_free (suc m) zero bs (b ∷ more) before h l = absurd (omega arith)
bound_free (suc m) (suc n) bs (b ∷ more) before h l =
    let held : List ℕ = b ∷ more in
    let rest : List ℕ = drop (record_length held) held in
    let fewer : length rest ≤ length more = omega (arith, length-drop (record_length held) held, record_head held) in
    ap (λ (rs : List Ran). ran_record bs held before ∷ cond (is_run held before) rs [])
    (bound_free m n (bytes_after_record bs held before) rest (before + 1) (omega arith) (omega arith))

-- ---- the records, one by one

module _ (bs : List ℕ) (b : ℕ) (more : List ℕ) (before : ℕ) where
  abbrev held : List ℕ
  held = b ∷ more

  after_run : is_run held before ≡ true
      → ran_all bs held before ≡ ran_record bs held before ∷ ran_all (bytes_after_record bs held before) (drop (record_length held) held) (before + 1)
  unfolding ran_in
  after_run e =
      let rest : List ℕ = drop (record_length held) held in
      let fewer : length rest ≤ length more = omega (arith, length-drop (record_length held) held, record_head held) in
      (λ i. ran_record bs held before ∷ cond (e i) (ran_in (length more) (bytes_after_record bs held before) rest (before + 1)) [])
      ∙ ap (λ (rs : List Ran). ran_record bs held before ∷ rs)
      (bound_free (length more) (length rest) (bytes_after_record bs held before) rest (before + 1) fewer (omega arith))

  after-wrong : is_run held before ≡ false → ran_all bs held before ≡ not_run before ∷ []
  unfolding ran_in
  after-wrong e =
      (λ i. ran_record bs held before ∷ cond (e i) (ran_in (length more) (bytes_after_record bs held before) (drop (record_length held) held) (before + 1)) [])
      ∙ ap (λ (r : Ran). r ∷ []) (sym (not_run_lem bs held before e).0)

-- the lines of a list of records whose first is known
listed_cons : (lines taken : ℕ) (r : Ran) (rs : List Ran)
    → lines_of (r ∷ rs) ++ end_line (lines + length (r ∷ rs)) (taken + accepted_of (r ∷ rs))
    ≡ text_of r ++ (lines_of rs ++ end_line (lines + 1 + length rs) (taken + one_if_accepted r + accepted_of rs))
unfolding lines_of accepted_of
listed_cons lines taken r rs =
    append_assoc (text_of r) (lines_of rs) (end_line (lines + length (r ∷ rs)) (taken + accepted_of (r ∷ rs)))
    ∙ ap₂ (λ (a b : ℕ). text_of r ++ (lines_of rs ++ end_line a b)) {x = lines + length (r ∷ rs)} {y = lines + 1 + length rs} (omega arith) (omega arith)

-- ---- the laws

-- input that has ended lists the last line
pub listed-end : (bs : List ℕ) (lines taken : ℕ) → listed_from bs [] lines taken ≡ end_line lines taken
unfolding listed_from ran_in lines_of accepted_of
listed-end bs lines taken = ap₂ end_line {x = lines + 0} {y = lines} (omega arith) (omega arith)

module _ (bs : List ℕ) (b : ℕ) (more : List ℕ) (lines taken : ℕ) where
  abbrev input : List ℕ
  input = b ∷ more

  -- a record that is run lists its line, and then what follows it
  pub listed-run : is_run input lines ≡ true → listed_from bs input lines taken
      ≡ text_of (ran_record bs input lines)
      ++ listed_from (bytes_after_record bs input lines) (drop (record_length input) input) (lines + 1) (taken + one_if_accepted (ran_record bs input lines))
  unfolding listed_from
  listed-run e =
      ap (λ (rs : List Ran). lines_of rs ++ end_line (lines + length rs) (taken + accepted_of rs)) (after_run bs b more lines e)
      ∙ listed_cons lines taken (ran_record bs input lines) (ran_all (bytes_after_record bs input lines) (drop (record_length input) input) (lines + 1))

  -- a record that is not run lists its line, and then the last line: nothing after it is read
  pub listed-not_run : is_run input lines ≡ false → listed_from bs input lines taken ≡ text_of (not_run lines) ++ end_line (lines + 1) taken
  unfolding listed_from lines_of accepted_of one_if_accepted
  listed-not_run e =
      ap (λ (rs : List Ran). lines_of rs ++ end_line (lines + length rs) (taken + accepted_of rs)) (after-wrong bs b more lines e)
      ∙ listed_cons lines taken (not_run lines) []
      ∙ ap₂ (λ (n k : ℕ). text_of (not_run lines) ++ end_line n k) {x = lines + 1 + 0} {y = lines + 1} (omega arith) (omega arith)

-- ---- ONE TURN

-- what is left before a record is its line, and what is left behind it
pub turned : (bs held : List ℕ) (lines accepted : ℕ) → 0 < length held
    → left false bs held lines accepted
    ≡ text_of (ran_record bs held lines)
    ++ left (is_last (ran_record bs held lines)) (bytes_after_record bs held lines) (drop (ran_record bs held lines).used held) (lines + 1)
    (accepted + one_if_accepted (ran_record bs held lines))
unfolding left one_if_accepted
turned bs [] lines accepted h = absurd (omega arith)
turned bs (b ∷ more) lines accepted h = of (is_run (b ∷ more) lines) refl
  where
    of : (r : Bool) → is_run (b ∷ more) lines ≡ r → listed_from bs (b ∷ more) lines accepted
        ≡ text_of (ran_record bs (b ∷ more) lines)
        ++ cond (is_last (ran_record bs (b ∷ more) lines)) (end_line (lines + 1) (accepted + one_if_accepted (ran_record bs (b ∷ more) lines)))
        (listed_from (bytes_after_record bs (b ∷ more) lines) (drop (ran_record bs (b ∷ more) lines).used (b ∷ more)) (lines + 1)
        (accepted + one_if_accepted (ran_record bs (b ∷ more) lines)))
    of true e =
        rw (ne_eqb (ran_record bs (b ∷ more) lines).kind 0 (run-kind bs (b ∷ more) lines e), run-used bs (b ∷ more) lines e)
        (listed-run bs b more lines accepted e)
    of false e =
        rw (← (not_run_lem bs (b ∷ more) lines e).0)
        (listed-not_run bs b more lines accepted e
        ∙ ap (λ (n : ℕ). text_of (not_run lines) ++ end_line (lines + 1) n) {x = accepted} {y = accepted + 0} (omega arith))

-- and where it is over, or nothing is held, the last line is left
pub ended : (bs held : List ℕ) (lines accepted : ℕ) (over : Bool) → (over ≡ false → length held ≡ 0) → left over bs held lines accepted ≡ end_line lines accepted
unfolding left
ended bs held lines accepted true h = refl
ended bs [] lines accepted false h = listed-end bs lines accepted
ended bs (b ∷ more) lines accepted false h = absurd (omega (arith, h refl))

-- ---- what is known of a record that was run or not

module _ (bs held : List ℕ) (before : ℕ) where
  -- it uses no more than is held
  pub used-inside : (ran_record bs held before).used ≤ length held
  used-inside = of (is_run held before) refl
    where
      of : (b : Bool) → is_run held before ≡ b → (ran_record bs held before).used ≤ length held
      of true e = omega (arith, run-used bs held before e, run-whole held before e)
      of false e = omega (arith, not_run-used bs held before e)

  -- where something is listed behind it, fewer than the most came before
  pub not_last : is_last (ran_record bs held before) ≡ false → before < most_records
  not_last h = of (is_run held before) refl
    where
      of : (b : Bool) → is_run held before ≡ b → before < most_records
      of true e = run-few held before e
      of false e =
          let z : ◌≡◌ {A = ℕ} 0 1 = cc (ap is_last (not_run_lem bs held before e).0, h) in
          absurd (omega arith)
