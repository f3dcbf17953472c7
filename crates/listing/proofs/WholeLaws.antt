-- A LISTING IN THE MAKING: what was put so far and what is left are the listing.
use mathlib.Core.Bool.{Bool, false}
use mathlib.Core.Path.{◌≡◌, refl, sym, ap, ap₂, subst, ◌∙◌}
use mathlib.Core.List.{List, [], ◌∷◌, ◌++◌, append_assoc, append-nil}
use Prim.Native.Nat.{ℕ, ◌+◌, ◌-◌, ◌*◌, ◌≤◌, ◌<◌}
use native.Mathlib.Omega.{arith}
use borrow.Author.Tests.{le-leb, lt-leb}
use lib.ListN.{length, take, drop, length-append, length-drop}
use lib.Seq.{take_all, drop-drop}
use Rattle.std.specs.Prelude.{Ok, Err}
use Rattle.lines.specs.Line.{room}
use Rattle.lines.specs.Text.{run_line, end_line}
use Rattle.recording.specs.Recorded.{empty_session}
use Rattle.recording.specs.Running.{ran_record, bytes_after_record}
use Rattle.records.specs.Form.{most_records}
use Rattle.records.specs.declared.told.Ran.{Ran}
use Rattle.turns.specs.Placing.{put_at}
use Rattle.turns.specs.Turns.{text_of, one_if_accepted, is_last, turn_of}
use Rattle.turns.specs.declared.Turn.{Turn}
use Rattle.turns.proofs.PlacingLaws.{put-none, put-put, put-nothing}
use Rattle.turns.proofs.TurnLaws.{one_most}
use Rattle.listing.specs.Listing.{listed_from, listing, left}
use Rattle.listing.specs.declared.whole.Refused.TheVariants.{OutputTooSmall}
use Rattle.listing.specs.Whole.{listed_into, IsPutFrom}
use Rattle.listing.proofs.ListingLaws.{turned, ended, used-inside, not_last}

-- what stands from an offset on, as a part that is lent
abbrev rest : List ℕ → ℕ → List ℕ
rest input at = take (length input - at) (drop at input)

-- what a loop over the turns has reached: all is to be put, `input` is the recording, `before` the output before the loop
pub record Reached (all input before : List ℕ) (from : ℕ) (session after : List ℕ) (written at lines accepted : ℕ) (over : Bool) : Type 0 where
  pub so_far : List ℕ
  pub whole : so_far ++ left over session (drop at input) lines accepted ≡ all
  pub size : from + length so_far ≡ written
  pub put : from + length all ≤ length before → after ≡ put_at before from so_far
  pub inside : at ≤ length input
  pub few : over ≡ false → lines ≤ most_records
  pub most : lines ≤ most_records + 1
  pub counted : accepted ≤ lines
  pub short : written ≤ room + room * lines

pub reached_first : (session input before : List ℕ) (from : ℕ) → from ≤ room → Reached (listed_from session input 0 0) input before from session before from 0 0 0 false
unfolding left
reached_first session input before from h = record {
  so_far = [];
  whole = refl;
  size = omega arith;
  put = λ fits. sym (put-nothing before from (omega arith));
  inside = omega arith;
  few = λ o. omega arith;
  most = omega arith;
  counted = omega arith;
  short = omega arith;
}

module _ {all input before : List ℕ} {from : ℕ} {session after : List ℕ} {written at lines accepted : ℕ} where
  -- a text behind what was put so far
  put_on : (over : Bool) (r : Reached all input before from session after written at lines accepted over) (text rest : List ℕ)
      → (r.so_far ++ text) ++ rest ≡ all → from + length all ≤ length before
      → put_at after written text ≡ put_at before from (r.so_far ++ text)
  put_on over r text rest whole fits =
      ap₂ (λ (u : List ℕ) (k : ℕ). put_at u k text) (r.put fits) (sym r.size)
      ∙ put-put before from r.so_far text (omega (arith, length-append (r.so_far ++ text) rest, ap length whole))

  -- a turn goes on with the listing
  pub reached_next : {over : Bool} {session' after' : List ℕ} {turn : Turn} → Reached all input before from session after written at lines accepted over
      → over ≡ false → at < length input
      → ((turn ≡ turn_of (ran_record session (rest input at) lines)) × (turn.length ≤ room))
      × ((session' ≡ bytes_after_record session (rest input at) lines) × (after' ≡ put_at after written (text_of (ran_record session (rest input at) lines))))
      → Reached all input before from session' after' (written + turn.length) (at + turn.used) (lines + 1) (accepted + turn.accepted) turn.last
  unfolding turn_of
  reached_next {over} {session'} {after'} {turn} r o l says =
      let held : List ℕ = rest input at in
      let h : held ≡ drop at input = take_all (length input - at) (drop at input) (omega (arith, length-drop at input)) in
      let ran : Ran = ran_record session held lines in
      let text : List ℕ = text_of ran in
      let more : ℕ = accepted + one_if_accepted ran in
      let behind : List ℕ = left (is_last ran) session' (drop (at + ran.used) input) (lines + 1) more in
      let size : length held ≡ length (drop at input) = ap length h in
      let some : 0 < length held = omega (arith, length-drop at input) in
      let whole : (r.so_far ++ text) ++ behind ≡ all =
      append_assoc r.so_far text behind
      ∙ ap₂ (λ (bs h : List ℕ). r.so_far ++ (text ++ left (is_last ran) bs h (lines + 1) more)) says.1.0
      (sym (drop-drop ran.used at input) ∙ ap (drop ran.used) (sym h))
      ∙ ap (λ (t : List ℕ). r.so_far ++ t) (sym (turned session held lines accepted some))
      ∙ ap₂ (λ (b : Bool) (l : List ℕ). r.so_far ++ left b session l lines accepted) (sym o) h ∙ r.whole in
      subst (λ (t : Turn). Reached all input before from session' after' (written + t.length) (at + t.used) (lines + 1) (accepted + t.accepted) t.last)
      (sym says.0.0)
      (record {
        so_far = r.so_far ++ text;
        whole = whole;
        size = omega (arith, length-append r.so_far text, r.size);
        put = λ large. says.1.1 ∙ put_on over r text behind whole large;
        inside = omega (arith, used-inside session held lines, length-drop at input);
        few = λ n. omega (arith, not_last session held lines n);
        most = omega (arith, r.few o);
        counted = omega (arith, one_most ran, r.counted);
        short = omega (arith, ap (λ (t : Turn). t.length) says.0.0, says.0.1);
      })

  -- and where it is over, the last line is its end
  pub reached_end : {over : Bool} {after' : List ℕ} {n : ℕ} → Reached all input before from session after written at lines accepted over
      → (over ≡ false → length input ≤ at)
      → ((n ≡ length (end_line lines accepted)) × (n ≤ room)) × (after' ≡ put_at after written (end_line lines accepted))
      → IsPutFrom all from before after' (written + n)
  reached_end {over} {after'} {n} r o says =
      let text : List ℕ = end_line lines accepted in
      let last : left over session (drop at input) lines accepted ≡ text =
      ended session (drop at input) lines accepted over (λ h. omega (arith, length-drop at input, o h)) in
      let whole : r.so_far ++ text ≡ all = ap (λ (t : List ℕ). r.so_far ++ t) (sym last) ∙ r.whole in (
        omega (arith, r.size, length-append r.so_far text, ap length whole, says.0.0),
        λ large. says.1 ∙ put_on over r text [] (append-nil (r.so_far ++ text) ∙ whole) large ∙ ap (put_at before from) whole,
      )

-- where a loop over the turns stops: it is over, or nothing is left
pub record Stopped (all input before : List ℕ) (from : ℕ) (session after : List ℕ) (written lines accepted : ℕ) : Type 0 where
  pub at : ℕ
  pub over : Bool
  pub reached : Reached all input before from session after written at lines accepted over
  pub none : over ≡ false → length input ≤ at

pub stopped_end : {all input before : List ℕ} {from : ℕ} {session after after' : List ℕ} {written lines accepted n : ℕ}
    → Stopped all input before from session after written lines accepted
    → ((n ≡ length (end_line lines accepted)) × (n ≤ room)) × (after' ≡ put_at after written (end_line lines accepted))
    → IsPutFrom all from before after' (written + n)
stopped_end s says = reached_end s.reached s.none says

-- the first line, and the rest behind it, are the listing
pub put_all : (input before begun after session : List ℕ) (first end : ℕ) → session ≡ empty_session
    → ((first ≡ length run_line) × (first ≤ room)) × (begun ≡ put_at before 0 run_line) → length begun ≡ length before
    → IsPutFrom (listed_from session input 0 0) first begun after end → IsPutFrom (listing input) 0 before after end
unfolding listing run_line
put_all input before begun after session first end s says same put =
    let rest : List ℕ = listed_from empty_session input 0 0 in
    let size : length (listing input) ≡ length run_line + length rest = length-append run_line rest in
    let e : length (listed_from session input 0 0) ≡ length rest = ap (λ (bs : List ℕ). length (listed_from bs input 0 0)) s in (
      put.0 ∙ omega (arith, says.0.0),
      λ fits.
          put.1 (omega (arith, says.0.0))
          ∙ (λ i. put_at (says.1 i) (says.0.0 i) (listed_from (s i) input 0 0))
          ∙ put-put before 0 run_line rest fits,
    )

-- no bytes before some bytes
pub none_before : (s t : List ℕ) → length s ≡ 0 → s ++ t ≡ t
none_before [] t e = refl
none_before (x ∷ s) t e = absurd (omega arith)

-- ---- the answer, where n is the listing's length

module _ (input output : List ℕ) (n : ℕ) (e : n ≡ 0 + length (listing input)) where
  pub list-refused : length output < n
      → (Err OutputTooSmall ≡ listed_into (length output) input) × (output ≡ put_at output 0 (listing input))
  unfolding listed_into
  list-refused h = (
    rw (lt-leb (length (listing input)) (length output) (omega arith)),
    sym (put-none output 0 (listing input) (omega arith)),
  )

  pub list-accepted : n ≤ length output → {after : List ℕ} {end : ℕ} → IsPutFrom (listing input) 0 output after end
      → (Ok end ≡ listed_into (length output) input) × (after ≡ put_at output 0 (listing input))
  unfolding listed_into
  list-accepted h {after} {end} put = (
    rw (le-leb (length (listing input)) (length output) (omega arith))
        (ap (λ (k : ℕ). Ok k) {x = end} {y = length (listing input)} (omega (arith, put.0))),
    put.1 (omega arith),
  )
