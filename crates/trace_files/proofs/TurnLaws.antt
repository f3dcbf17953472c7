-- THE TURNS OF A TRACE ARE ITS WALK: what was read, and whatever still comes, checked, is the walk over what is left behind the entries that were right.
use mathlib.Core.Bool.{Bool, true, false, not, cond, ◌&&◌, true≢false}
use mathlib.Core.Logic.{◌⊎◌, inl, inr}
use mathlib.Core.Path.{◌≡◌, refl, sym, ap, ap₂, subst, ◌∙◌}
use mathlib.Core.List.{List, [], ◌++◌, append_assoc, append-nil}
use Prim.Native.Nat.{ℕ, ◌+◌, ◌-◌, ◌*◌, ◌≤◌, ◌<◌}
use native.Mathlib.Omega.{arith}
use borrow.Author.Tests.{ltb-true, not-true}
use lib.Dec.{ltb}
use lib.ListN.{length, drop, length-drop, length-append}
use lib.Seq.{take-append-le, drop-append-le}
use Rattle.numbers.proofs.Logic.{lt_or_le}
use Rattle.holding.specs.declared.Held.{Held}
use Rattle.holding.specs.Held.{stretch, held_bytes, behind_by, is_end}
use Rattle.holding.proofs.HeldLaws.{behind-held, not_end, is-end, none_left}
use Rattle.traces.specs.Entry.{entry_bytes, mode_after, right, is_right, judged}
use Rattle.traces.specs.Trace.{first_entry, entries_of, yes, told_at, walked, checked}
use Rattle.traces.specs.declared.walk.Checked.{Checked}
use Rattle.traces.proofs.EntryLaws.{right-whole, after_front, judged-front}
use Rattle.traces.proofs.TraceLaws.{walked_end, walked-told, walked_on}
use Rattle.lines.specs.Line.{room}
use Rattle.trace_files.specs.declared.files.File.{File}
use Rattle.trace_files.specs.Answer.{answer_text}
use Rattle.trace_files.specs.Turns.{begun_file, most_entries, goes_on, stopped_at, right_on, judged_first, IsTurn, Turns, begin, next, answer_of, IsChecked}
use Rattle.trace_files.proofs.AnswerLaws.{right-fits, told-fits}

-- ---- the first entry of what is held, where `rest` is still to be read: it is whole, or nothing more comes

module _ (held rest : List ℕ) (closed : Bool) (whole : closed ≡ false → entry_bytes ≤ length held) (end : closed ≡ true → rest ≡ []) where
  first-held : first_entry (held ++ rest) ≡ first_entry held
  first-held = of closed refl
    where
      of : (b : Bool) → closed ≡ b → first_entry (held ++ rest) ≡ first_entry held
      of true e = ap (λ (l : List ℕ). first_entry (held ++ l)) (end e) ∙ ap first_entry (append-nil held)
      of false e = take-append-le entry_bytes held rest (whole e)

  judged-held : (previous : ℕ) → judged previous (first_entry (held ++ rest)) ≡ judged previous held
  judged-held previous = ap (judged previous) first-held ∙ judged-front held entry_bytes (omega arith) previous

  after-held : mode_after (first_entry (held ++ rest)) ≡ mode_after held
  after-held = ap (λ (e : List ℕ). mode_after e) first-held ∙ after_front held entry_bytes (omega arith)

-- ---- one turn

-- what is left to tell, where `rest` is still to be read
abbrev to_come : List ℕ → File → List ℕ → Checked
to_come rest file input = cond file.over (answer_of file) (walked (file.entries + 1) file.previous (entries_of (held_bytes input file.held ++ rest)))

right-right : is_right right ≡ true
unfolding is_right
right-right = refl

-- where no entry is there, the last one was right
right-told : (n : ℕ) → cond (is_right right) yes (told_at n right) ≡ yes
right-told n = ap (λ (b : Bool). cond b yes (told_at n right)) right-right

-- the three ways that a turn goes: no entry is there, the first one is not right, or it is
module _ {file : File} {before after : List ℕ} {r : File} (t : IsTurn file before after r) where
  abbrev first : List ℕ
  first = held_bytes after t.held

  pub data Went : Type 0 where
    at_end : is_end t.held first ≡ true → r ≡ stopped_at file t.held right → Went
    not_right : is_end t.held first ≡ false → is_right (judged file.previous first) ≡ false → r ≡ stopped_at file t.held (judged file.previous first) → Went
    went_on : is_end t.held first ≡ false → is_right (judged file.previous first) ≡ true → r ≡ right_on file t.held first → Went

  by_tests_lem : (b c : Bool) → is_end t.held first ≡ b → is_right (judged file.previous first) ≡ c
      → r ≡ cond b (stopped_at file t.held right) (cond c (right_on file t.held first) (stopped_at file t.held (judged file.previous first)))
  unfolding judged_first
  by_tests_lem b c e f =
      t.judges
      ∙ λ i. cond (e i) (stopped_at file t.held right) (cond (f i) (right_on file t.held first) (stopped_at file t.held (judged file.previous first)))

  went : Went
  went = of (is_end t.held first) (is_right (judged file.previous first)) refl refl
    where
      of : (b c : Bool) → is_end t.held first ≡ b → is_right (judged file.previous first) ≡ c → Went
      of true c e f = at_end e (by_tests_lem true c e f)
      of false false e f = not_right e f (by_tests_lem false false e f)
      of false true e f = went_on e f (by_tests_lem false true e f)

  -- the input has ended exactly where it had when the turn was ready
  ended_same : r.held.ended ≡ t.held.ended
  ended_same = of went
    where
      of : Went → r.held.ended ≡ t.held.ended
      of (at_end e k) = ap (λ (q : File). q.held.ended) k
      of (not_right e w k) = ap (λ (q : File). q.held.ended) k
      of (went_on e w k) = ap (λ (q : File). q.held.ended) k

  -- a right entry is counted, and no other
  entries_more : r.entries ≤ file.entries + 1
  entries_more = of went
    where
      of : Went → r.entries ≤ file.entries + 1
      of (at_end e k) = omega (arith, ap (λ (q : File). q.entries) k)
      of (not_right e w k) = omega (arith, ap (λ (q : File). q.entries) k)
      of (went_on e w k) = omega (arith, ap (λ (q : File). q.entries) k)

  -- and what is held is less by its bytes
  bytes_counted : entry_bytes * r.entries + length (held_bytes after r.held) ≡ entry_bytes * file.entries + length first
  bytes_counted = of went
    where
      stays : r.entries ≡ file.entries → r.held ≡ t.held → entry_bytes * r.entries + length (held_bytes after r.held) ≡ entry_bytes * file.entries + length first
      stays n h = λ i. entry_bytes * n i + length (held_bytes after (h i))

      of : Went → entry_bytes * r.entries + length (held_bytes after r.held) ≡ entry_bytes * file.entries + length first
      of (at_end e k) = stays (ap (λ (q : File). q.entries) k) (ap (λ (q : File). q.held) k)
      of (not_right e w k) = stays (ap (λ (q : File). q.entries) k) (ap (λ (q : File). q.held) k)
      of (went_on e w k) =
          let n : r.entries ≡ file.entries + 1 = ap (λ (q : File). q.entries) k in
          let l : length (held_bytes after r.held) ≡ length (drop entry_bytes first) =
          ap (λ (q : File). length (held_bytes after q.held)) k ∙ ap (λ (s : List ℕ). length s) (behind-held after t.held entry_bytes) in
          omega (arith, n, l, length-drop entry_bytes first, right-whole file.previous first w)

  -- where the file is over and its last entry right, nothing is left
  none-held : r.over ≡ true → is_right r.judged ≡ true → length (held_bytes after r.held) ≡ 0
  none-held over right = of went
    where
      of : Went → length (held_bytes after r.held) ≡ 0
      of (at_end e k) =
          let failed : not t.held.failed ≡ true = sym (ap (λ (q : File). q.over) k) ∙ over in
          ap (λ (q : File). length (held_bytes after q.held)) k ∙ is-end t.held first e (not-true t.held.failed failed)
      of (not_right e w k) = absurd (true≢false (sym right ∙ ap (λ (q : File). is_right q.judged) k ∙ w))
      of (went_on e w k) = absurd (true≢false (sym over ∙ ap (λ (q : File). q.over) k))

  module _ (rest : List ℕ) (shut : r.held.ended ≡ true → rest ≡ []) where
    shut_held : t.held.ended ≡ true → rest ≡ []
    shut_held e = shut (ended_same ∙ e)

    some_left : is_end t.held first ≡ false → 0 < length (first ++ rest)
    some_left e = of (lt_or_le 0 (length (first ++ rest)))
      where
        of : (0 < length (first ++ rest)) ⊎ (length (first ++ rest) ≤ 0) → 0 < length (first ++ rest)
        of (inl l) = l
        of (inr z) = absurd ((not_end t.held first e).1 (omega (arith, length-append first rest)))

    same : judged file.previous (first_entry (first ++ rest)) ≡ judged file.previous first
    same = judged-held first rest t.held.ended t.ready.enough shut_held file.previous

    abbrev whole : Checked
    whole = walked (file.entries + 1) file.previous (entries_of (first ++ rest))

    end-left : is_end t.held first ≡ true → whole ≡ cond (not t.held.failed) yes whole
    end-left e = of t.held.failed refl
      where
        of : (b : Bool) → t.held.failed ≡ b → whole ≡ cond (not b) yes whole
        of true f = refl
        of false f =
            sym (walked_end (file.entries + 1) file.previous (first ++ rest)
            (none_left entry_bytes first rest t.held.ended (omega arith) t.ready.enough shut_held (is-end t.held first e f)))

    told-left : is_end t.held first ≡ false → is_right (judged file.previous first) ≡ false → whole ≡ told_at (file.entries + 1) (judged file.previous first)
    told-left e w =
        sym (walked-told (file.entries + 1) file.previous (first ++ rest) (some_left e) (ap is_right same ∙ w))
        ∙ ap (told_at (file.entries + 1)) same

    on-left : is_end t.held first ≡ false → is_right (judged file.previous first) ≡ true
        → whole ≡ walked (file.entries + 1 + 1) (mode_after first) (entries_of (held_bytes after (behind_by entry_bytes t.held) ++ rest))
    on-left e w =
        let behind : drop entry_bytes (first ++ rest) ≡ held_bytes after (behind_by entry_bytes t.held) ++ rest =
        drop-append-le entry_bytes first rest (right-whole file.previous first w) ∙ ap (λ (s : List ℕ). s ++ rest) (sym (behind-held after t.held entry_bytes)) in
        walked_on (file.entries + 1) file.previous (first ++ rest) (some_left e) (ap is_right same ∙ w)
        ∙ λ i. walked (file.entries + 1 + 1) (after-held first rest t.held.ended t.ready.enough shut_held i) (entries_of (behind i))

    -- what was to come before a turn is what is to come behind it
    turn-left : whole ≡ to_come rest r after
    turn-left = of went
      where
        of : Went → whole ≡ to_come rest r after
        of (at_end e k) = end-left e ∙ (λ i. cond (not t.held.failed) (sym (right-told (file.entries + 1)) i) whole) ∙ ap (λ (q : File). to_come rest q after) (sym k)
        of (not_right e w k) =
            told-left e w
            ∙ (λ i. cond (not (sym (not_end t.held first e).0 i)) (cond (sym w i) yes (told_at (file.entries + 1) (judged file.previous first))) whole)
            ∙ ap (λ (q : File). to_come rest q after) (sym k)
        of (went_on e w k) = on-left e w ∙ ap (λ (q : File). to_come rest q after) (sym k)

-- ---- ALL TURNS

goes : (a b c : Bool) → not a && not b && c ≡ true → (a ≡ false) × (b ≡ false) × (c ≡ true)
goes true b c e = absurd (true≢false (sym e))
goes false true c e = absurd (true≢false (sym e))
goes false false c e = (refl, refl, e)

-- a file that goes on is not over, can be read, and has not the most entries
pub goes_on_lem : (file : File) → goes_on file ≡ true → (file.over ≡ false) × (file.held.failed ≡ false) × (file.entries < most_entries)
unfolding goes_on
goes_on_lem file e =
    let g = goes file.over file.held.failed (ltb file.entries most_entries) e in
    (g.0, g.1, ltb-true _ _ g.2)

-- what was read and is still to be read, checked, is what is to come
so_far : {start read input : List ℕ} {file : File} → Turns start read input file
    → (rest : List ℕ) → (file.held.ended ≡ true → rest ≡ []) → checked (read ++ rest) ≡ to_come rest file input
unfolding stretch checked
so_far begin rest shut = refl
so_far (next {read} {before} {after} {file} {r} turns going t) rest shut =
    ap checked (append_assoc read t.ready.more rest)
    ∙ so_far turns (t.ready.more ++ rest)
    (λ e. let closed = t.ready.closed e in
    ap₂ (λ (x y : List ℕ). x ++ y) closed.0 (shut (ended_same t ∙ ap (λ (h : Held). h.ended) closed.1 ∙ e)))
    ∙ (λ i. cond ((goes_on_lem file going).0 i) (answer_of file) (walked (file.entries + 1) file.previous (entries_of (kept i))))
    ∙ turn-left t rest shut
  where
    kept : held_bytes before file.held ++ (t.ready.more ++ rest) ≡ held_bytes after t.held ++ rest
    kept = sym (append_assoc (held_bytes before file.held) t.ready.more rest) ∙ ap (λ (s : List ℕ). s ++ rest) (sym t.ready.kept)

-- every byte that was read is one of a right entry, or held
all-counted : {start read input : List ℕ} {file : File} → Turns start read input file → length read ≡ entry_bytes * file.entries + length (held_bytes input file.held)
unfolding stretch
all-counted begin = refl
all-counted (next {read} {before} {after} {file} {r} turns going t) =
    omega (
      arith,
      length-append read t.ready.more,
      all-counted turns,
      length-append (held_bytes before file.held) t.ready.more,
      ap (λ (s : List ℕ). length s) t.ready.kept,
      bytes_counted t,
    )

few_entries : {start read input : List ℕ} {file : File} → Turns start read input file → file.entries ≤ most_entries
few_entries begin = omega arith
few_entries (next {file = file} turns going t) = omega (arith, entries_more t, (goes_on_lem file going).2)

all_right : {start read input : List ℕ} {file : File} → Turns start read input file → file.over ≡ true → is_right file.judged ≡ true
    → length (held_bytes input file.held) ≡ 0
all_right begin over r = absurd (true≢false (sym over))
all_right (next turns going t) over r = none-held t over r

-- there is room for the line of a file that is over
pub answer-fits : {start read input : List ℕ} {file : File} → Turns start read input file → file.over ≡ true
    → length (answer_text file (held_bytes input file.held)) ≤ room
answer-fits begin over = absurd (true≢false (sym over))
answer-fits (next {after = after} {file = file} {r = r} turns going t) over = of (went t)
  where
    few : r.entries ≤ most_entries
    few = few_entries (next turns going t)

    of : Went t → length (answer_text r (held_bytes after r.held)) ≤ room
    of (at_end e k) = right-fits r (held_bytes after r.held) few (ap (λ (q : File). is_right q.judged) k ∙ right-right)
    of (not_right e w k) =
        let same : r.judged ≡ judged file.previous (held_bytes after r.held) =
        ap (λ (q : File). q.judged) k ∙ ap (λ (h : Held). judged file.previous (held_bytes after h)) (sym (ap (λ (q : File). q.held) k)) in
        told-fits r (held_bytes after r.held) few file.previous same (ap (λ (q : File). is_right q.judged) k ∙ w)
    of (went_on e w k) = absurd (true≢false (sym over ∙ ap (λ (q : File). q.over) k))

-- ---- turns are counted

-- the entries that a file can still have
abbrev pub can_have : File → ℕ
can_have file = cond (goes_on file) (most_entries - file.entries) 0

module _ {file : File} {before after : List ℕ} {r : File} (t : IsTurn file before after r) where
  -- a file that goes on behind a turn has an entry more
  turn_entries : goes_on r ≡ true → r.entries ≡ file.entries + 1
  turn_entries g = of (went t)
    where
      stopped : r.over ≡ not t.held.failed → r.held.failed ≡ t.held.failed → ⊥
      stopped o f =
          let on = goes_on_lem r g in
          true≢false (ap not (sym on.1 ∙ f) ∙ sym o ∙ on.0)

      of : Went t → r.entries ≡ file.entries + 1
      of (at_end e k) = absurd (stopped (ap (λ (q : File). q.over) k) (ap (λ (q : File). q.held.failed) k))
      of (not_right e w k) = absurd (stopped (ap (λ (q : File). q.over) k) (ap (λ (q : File). q.held.failed) k))
      of (went_on e w k) = ap (λ (q : File). q.entries) k

  pub fewer : goes_on file ≡ true → can_have r < can_have file
  fewer on = rw on (of (goes_on r) refl)
    where
      of : (c : Bool) → goes_on r ≡ c → cond c (most_entries - r.entries) 0 < most_entries - file.entries
      of true g = omega (arith, turn_entries g, (goes_on_lem file on).2)
      of false g = omega (arith, (goes_on_lem file on).2)

-- ---- the loop

pub record Going (start input : List ℕ) (file : File) : Type 0 where
  pub read : List ℕ
  pub turns : Turns start read input file

pub going_first : (start : List ℕ) {file : File} → file ≡ begun_file → Going start start file
going_first start e = subst (Going start start) (sym e) (record { read = []; turns = begin })

pub going_next : {start before after : List ℕ} {file r : File} → Going start before file → goes_on file ≡ true → IsTurn file before after r → Going start after r
going_next g on t = record { read = _; turns = next g.turns on t }

-- THE TRACE IS CHECKED once its file is over
pub all-checked : {start input : List ℕ} {file : File} → Going start input file → goes_on file ≡ false → IsChecked start input file
all-checked {start} {input} {file} g stop = record {
  read = g.read;
  turns = g.turns;
  stopped = stop;
  few = few_entries g.turns;
  answered = λ over rest shut.
      so_far g.turns rest shut
      ∙ ap (λ (b : Bool). cond b (answer_of file) (walked (file.entries + 1) file.previous (entries_of (held_bytes input file.held ++ rest)))) over;
  counted = λ over r. omega (arith, all-counted g.turns, all_right g.turns over r);
}
