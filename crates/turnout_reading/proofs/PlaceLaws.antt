-- WHERE A TURNOUT READ SAYS THAT IT BROKE: of a turnout that is refused, its speed. What answer and place say together is proved of any profile
-- (profiles/proofs/PlaceLaws).
use mathlib.Core.Path.{◌≡◌, refl, sym, ap, ◌∙◌}
use mathlib.Core.Bool.{Bool, true, false, not}
use mathlib.Core.List.{List}
use Prim.Native.Nat.{ℕ, ◌+◌, ◌*◌, ◌<◌}
use native.Mathlib.Nat.{add-zero}
use native.Mathlib.Omega.{arith}
use Rattle.numbers.specs.Pieces.{unpack}
use Rattle.framing.specs.Refusals.{not_allowed, refuse}
use Rattle.framing.specs.Framing.{length_of}
use Rattle.framing.specs.Refusals.{Refusal}
use Rattle.framing.proofs.RefusalLaws.{same_number}
use Rattle.profiles.specs.Profiles.{count_of}
use Rattle.profiles.specs.Reading.{read_answer}
use Rattle.profiles.specs.Places.{ruled_at, FirstRefused}
use Rattle.profiles.proofs.PlaceLaws.{Told, answer-told}
use Rattle.profiles.proofs.PlaceLaws.{place_of_4 as entry-of-4}
use Rattle.turnouts.specs.Turnouts.{turnout_profile, is_allowed}
use Rattle.turnouts.proofs.TurnoutLaws.{regular}
use Rattle.turnout_reading.specs.Places.{speed_at, speed_of, FirstWrong}

-- ---- the rule on one speed

-- it refuses what is not allowed, where the turnout starts
refused : (allowed : Bool) → (refuse (not allowed) (not_allowed 0)).number ≡ 4 → allowed ≡ false
unfolding refuse
refused true e = absurd (omega arith)
refused false e = refl

not_refused : (allowed : Bool) → (refuse (not allowed) (not_allowed 0)).number ≡ 0 → allowed ≡ true
unfolding refuse
not_refused true e = refl
not_refused false e = absurd (omega arith)

here : (allowed : Bool) → (refuse (not allowed) (not_allowed 0)).place ≡ 0
unfolding refuse
here true = refl
here false = refl

ruled : (s : List ℕ) (i : ℕ) → ruled_at turnout_profile s 13 i ≡ refuse (not (is_allowed (speed_of s i))) (not_allowed 0)
unfolding unpack
ruled s i = refl

-- OF THE FIRST TURNOUT THAT IS REFUSED the place is its speed
first-wrong : (s : List ℕ) (n q : ℕ) → FirstRefused turnout_profile s 13 n q → FirstWrong s n q
first-wrong s n q r = record {
  turnout = r.entry;
  there = r.there;
  place = r.place ∙ ap (λ (k : ℕ). speed_at s r.entry + k) (ap (λ (a : Refusal). a.place) (ruled s r.entry) ∙ here (is_allowed (speed_of s r.entry))) ∙ add-zero (speed_at s r.entry);
  wrong = refused (is_allowed (speed_of s r.entry)) (same_number (sym (ruled s r.entry)) ∙ r.refused);
  before = λ i l. not_refused (is_allowed (speed_of s i)) (same_number (sym (ruled s i)) ∙ r.before i l);
}

-- ---- so of a turnout read

-- of a 4 the place is the first speed that is not allowed, and lies within the sub-packet
pub place_of_4 : {s : List ℕ} {r : Refusal} → Told turnout_profile s r → r.number ≡ 4 → FirstWrong s (count_of turnout_profile s) r.place × (r.place < 8 * length_of s)
place_of_4 {s} t e =
    let x = entry-of-4 t e in
    (first-wrong s _ _ x.0, x.1)

-- ALL OF THIS OF THE ANSWER of a turnout read, by its number and its place
pub turnouts_told : (s o : List ℕ) → Told turnout_profile s (record { number = (read_answer turnout_profile s o).answer; place = (read_answer turnout_profile s o).place })
turnouts_told = answer-told turnout_profile regular
