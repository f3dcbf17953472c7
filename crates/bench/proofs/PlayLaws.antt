-- THE TURNS OF A PLAY ARE THE LISTING: what was handed to the system, what is pending and what is left are the listing of what was read and of
-- whatever still comes.
use mathlib.Core.Bool.{Bool, true, false, not, cond, ◌&&◌}
use mathlib.Core.Path.{◌≡◌, refl, sym, ap, ap₂, subst, ◌∙◌}
use mathlib.Core.List.{List, [], ◌++◌, append_assoc, append-nil}
use Prim.Native.Nat.{ℕ, ◌+◌, ◌-◌, ◌≤◌, ◌<◌}
use native.Mathlib.Omega.{arith}
use lib.ListN.{length, take, drop, length-append}
use lib.Seq.{take-append-le, drop-append-le}
use Rattle.lines.specs.Line.{room}
use Rattle.lines.specs.Text.{run_line, end_line}
use Rattle.records.specs.Form.{longest, most_records}
use Rattle.records.specs.declared.told.Ran.{Ran}
use Rattle.turns.specs.Placing.{put_at}
use Rattle.turns.specs.Turns.{text_of, one_if_accepted, is_last, turn_of}
use Rattle.turns.specs.declared.Turn.{Turn}
use Rattle.turns.proofs.TurnLaws.{one_most}
use Rattle.recording.specs.Recorded.{empty_session}
use Rattle.recording.specs.Running.{ran_record, bytes_after_record}
use Rattle.recording.proofs.RecordLaws.{longest-enough}
use Rattle.listing.specs.Listing.{listed_from, listing, left}
use Rattle.listing.proofs.ListingLaws.{turned, ended, used-inside, not_last}
use Rattle.bench.specs.declared.Play.{Play}
use Rattle.holding.specs.declared.Held.{Held}
use Rattle.bench.specs.declared.pending.Pending.{Pending}
use Rattle.holding.specs.Held.{stretch, held_bytes, behind_by, is_end}
use Rattle.bench.specs.Pending.{pending_bytes, with_more, HasRoom}
use Rattle.bench.specs.Playing.{Bytes, begun_play, goes_on, stopped_at, played_on, RunsFirst, IsTurn, Turns, none, next, IsPlayed, IsEnded}
use Rattle.holding.proofs.HeldLaws.{behind-held, not_end, is-end, none_left}
use Rattle.bench.proofs.PendingLaws.{text-put}

-- ---- as much is held as a record needs

module _ (held rest : List ℕ) where
  front-held : (closed : Bool) → (closed ≡ false → longest ≤ length held) → (closed ≡ true → rest ≡ []) → take longest (held ++ rest) ≡ take longest held
  front-held true h r = ap (λ (s : List ℕ). take longest (held ++ s)) (r refl) ∙ ap (take longest) (append-nil held)
  front-held false h r = take-append-le longest held rest (h refl)

  module _ (bs : List ℕ) (n : ℕ) (e : take longest (held ++ rest) ≡ take longest held) where
    ran-held : ran_record bs (held ++ rest) n ≡ ran_record bs held n
    ran-held = sym (longest-enough bs (held ++ rest) n).0 ∙ ap (λ (s : List ℕ). ran_record bs s n) e ∙ (longest-enough bs held n).0

    left-held : bytes_after_record bs (held ++ rest) n ≡ bytes_after_record bs held n
    left-held = sym (longest-enough bs (held ++ rest) n).1 ∙ ap (λ (s : List ℕ). bytes_after_record bs s n) e ∙ (longest-enough bs held n).1

-- ---- ONE TURN

-- what is pending of a play and what is left of it, where `rest` is still to be read
abbrev to_come : List ℕ → Play → Bytes → List ℕ
to_come rest p b =
    pending_bytes b.output p.pending
    ++ left p.over b.session (held_bytes b.input p.held ++ rest) p.lines p.accepted

-- no record is run, since nothing is left or nothing can be read
module _ (p : Play) (bs input : List ℕ) (held : Held) (rest : List ℕ)
    (enough : held.ended ≡ false → longest ≤ length (held_bytes input held)) (closed : held.ended ≡ true → rest ≡ []) where
  stop-left : is_end held (held_bytes input held) ≡ true → left false bs (held_bytes input held ++ rest) p.lines p.accepted
      ≡ left (not held.failed) bs (held_bytes input held ++ rest) p.lines p.accepted
  unfolding left
  stop-left e = of held.failed refl
    where
      of : (b : Bool) → held.failed ≡ b → left false bs (held_bytes input held ++ rest) p.lines p.accepted
          ≡ left (not b) bs (held_bytes input held ++ rest) p.lines p.accepted
      of true f = refl
      of false f =
          ended bs (held_bytes input held ++ rest) p.lines p.accepted false
          (λ o. none_left longest (held_bytes input held) rest held.ended (omega arith) enough closed (is-end held (held_bytes input held) e f))

  -- a record is run
  run-left : is_end held (held_bytes input held) ≡ false → let ran = ran_record bs (held_bytes input held) p.lines in
      left false bs (held_bytes input held ++ rest) p.lines p.accepted
      ≡ text_of ran
      ++ left (is_last ran) (bytes_after_record bs (held_bytes input held) p.lines) (held_bytes input (behind_by ran.used held) ++ rest) (p.lines + 1) (p.accepted + one_if_accepted ran)
  run-left e =
      let bytes : List ℕ = held_bytes input held in
      let n : ℕ = p.lines in
      let front : take longest (bytes ++ rest) ≡ take longest bytes = front-held bytes rest held.ended enough closed in
      let some : length bytes ≡ 0 → ⊥ = (not_end held bytes e).1 in
      let ran : ran_record bs (bytes ++ rest) n ≡ ran_record bs bytes n = ran-held bytes rest bs n front in
      let after : bytes_after_record bs (bytes ++ rest) n ≡ bytes_after_record bs bytes n = left-held bytes rest bs n front in
      let used : ℕ = (ran_record bs bytes n).used in
      let behind : drop used (bytes ++ rest) ≡ held_bytes input (behind_by used held) ++ rest =
      drop-append-le used bytes rest (used-inside bs bytes n) ∙ ap (λ (s : List ℕ). s ++ rest) (sym (behind-held input held used)) in
      turned bs (bytes ++ rest) n p.accepted (omega (arith, length-append bytes rest))
      ∙ (λ i. text_of (ran i) ++ left (is_last (ran i)) (after i) (drop (ran i).used (bytes ++ rest)) (n + 1) (p.accepted + one_if_accepted (ran i)))
      ∙ ap (λ (s : List ℕ). text_of (ran_record bs bytes n) ++ left (is_last (ran_record bs bytes n)) (bytes_after_record bs bytes n) s (n + 1) (p.accepted + one_if_accepted (ran_record bs bytes n))) behind

module _ {p : Play} {b a : Bytes} {r : Play} (t : IsTurn p b a r) where
  abbrev bytes : List ℕ
  bytes = held_bytes a.input t.held

  abbrev ran : Ran
  ran = ran_record b.session bytes p.lines

  abbrev stop : Play
  stop = stopped_at p t.held t.pending

  abbrev run : Play
  run = played_on p t.held t.pending ran

  abbrev run_session : List ℕ
  run_session = bytes_after_record b.session bytes p.lines

  abbrev run_output : List ℕ
  run_output = put_at b.output t.pending.filled (text_of ran)

  -- what a turn tells, where it is known whether a record is run
  by_end : (c : Bool) → is_end t.held bytes ≡ c
      → (r ≡ cond c stop run) × (a.session ≡ cond c b.session run_session) × (a.output ≡ cond c b.output run_output)
  by_end c e = (
    t.runs.result ∙ ap (λ (x : Bool). cond x stop run) e,
    t.runs.bytes ∙ ap (λ (x : Bool). cond x b.session run_session) e,
    t.runs.text ∙ ap (λ (x : Bool). cond x b.output run_output) e,
  )

  -- the input has ended exactly where it had when the turn was ready
  ended_same : r.held.ended ≡ t.held.ended
  ended_same = of (is_end t.held bytes) refl
    where
      of : (c : Bool) → is_end t.held bytes ≡ c → r.held.ended ≡ t.held.ended
      of true e = ap (λ (q : Play). q.held.ended) (by_end true e).0
      of false e = ap (λ (q : Play). q.held.ended) (by_end false e).0

  -- what was to come before a turn is what it sent and what is to come behind it
  turn-left : (rest : List ℕ) → p.over ≡ false → (r.held.ended ≡ true → rest ≡ [])
      → to_come (t.ready.more ++ rest) p b ≡ t.roomy.sent ++ to_come rest r a
  turn-left rest o closed = start ∙ of (is_end t.held bytes) refl
    where
      sent : List ℕ
      sent = t.roomy.sent

      kept : List ℕ
      kept = pending_bytes b.output t.pending

      open_left : List ℕ
      open_left = left false b.session (bytes ++ rest) p.lines p.accepted

      start : to_come (t.ready.more ++ rest) p b ≡ sent ++ (kept ++ open_left)
      start =
          let held : held_bytes b.input p.held ++ (t.ready.more ++ rest) ≡ bytes ++ rest =
          sym (append_assoc (held_bytes b.input p.held) t.ready.more rest) ∙ ap (λ (s : List ℕ). s ++ rest) (sym t.ready.kept) in
          (λ i. sym t.roomy.rest i ++ left (o i) b.session (held i) p.lines p.accepted) ∙ append_assoc sent kept open_left

      shut : t.held.ended ≡ true → rest ≡ []
      shut e = closed (ended_same ∙ e)

      of : (c : Bool) → is_end t.held bytes ≡ c → sent ++ (kept ++ open_left) ≡ sent ++ to_come rest r a
      of true e =
          let known = by_end true e in
          ap (λ (s : List ℕ). sent ++ (kept ++ s)) (stop-left p b.session a.input t.held rest t.ready.enough shut e)
          ∙ sym (λ i. sent ++ to_come rest (known.0 i) (record { session = known.1 i; input = a.input; output = known.2 i }))
      of false e =
          let known = by_end false e in
          let text : List ℕ = text_of ran in
          let behind : List ℕ = left (is_last ran) run_session (held_bytes a.input (behind_by ran.used t.held) ++ rest) (p.lines + 1) (p.accepted + one_if_accepted ran) in
          let fits : t.pending.filled + length text ≤ length b.output = omega (arith, t.runs.short e, t.roomy.large) in
          ap (λ (s : List ℕ). sent ++ (kept ++ s)) (run-left p b.session a.input t.held rest t.ready.enough shut e)
          ∙ ap (λ (s : List ℕ). sent ++ s) (sym (append_assoc kept text behind))
          ∙ ap (λ (s : List ℕ). sent ++ (s ++ behind)) (sym (text-put b.output t.pending.filled text fits))
          ∙ sym (λ i. sent ++ to_come rest (known.0 i) (record { session = known.1 i; input = a.input; output = known.2 i }))

-- ---- the first record, run or not

-- a turn counts one record at most
pub one-accepted : (ran : Ran) (turn : Turn) → turn ≡ turn_of ran → turn.accepted ≤ 1
unfolding turn_of
one-accepted ran turn e = omega (arith, ap (λ (t : Turn). t.accepted) e, one_most ran)

module _ (p : Play) (held : Held) (pending : Pending) (first session output : List ℕ) where
  abbrev first_ran : Ran
  first_ran = ran_record session first p.lines

  pub runs-one : {turn : Turn} {session' output' : List ℕ} {h : Held} {q : Pending} → is_end held first ≡ false
      → ((turn ≡ turn_of first_ran) × (turn.length ≤ room))
      × ((session' ≡ bytes_after_record session first p.lines) × (output' ≡ put_at output pending.filled (text_of first_ran)))
      → h ≡ behind_by turn.used held → q ≡ with_more turn.length pending
      → RunsFirst p held pending first session output session' output'
      (record { held = h; pending = q; lines = p.lines + 1; accepted = p.accepted + turn.accepted; over = turn.last })
  unfolding turn_of
  runs-one {turn} e says eh eq = record {
    short = λ n. omega (arith, ap (λ (t : Turn). t.length) says.0.0, says.0.1);
    result =
        (λ i. record {
          held = (eh ∙ ap (λ (t : Turn). behind_by t.used held) says.0.0) i;
          pending = (eq ∙ ap (λ (t : Turn). with_more t.length pending) says.0.0) i;
          lines = p.lines + 1;
          accepted = p.accepted + (says.0.0 i).accepted;
          over = (says.0.0 i).last;
        })
        ∙ ap (λ (b : Bool). cond b (stopped_at p held pending) (played_on p held pending first_ran)) (sym e);
    bytes = says.1.0 ∙ ap (λ (b : Bool). cond b session (bytes_after_record session first p.lines)) (sym e);
    text = says.1.1 ∙ ap (λ (b : Bool). cond b output (put_at output pending.filled (text_of first_ran))) (sym e);
  }

-- ---- ALL TURNS

goes : (a b c : Bool) → not a && not b && c ≡ true → a ≡ false
goes true b c e = let z : ◌≡◌ {A = ℕ} 0 1 = cc (e) in absurd (omega arith)
goes false b c e = refl

-- a play that goes on is not over
pub goes_over : (p : Play) → goes_on p ≡ true → p.over ≡ false
unfolding goes_on
goes_over p e = goes p.over p.held.failed p.pending.writable e

-- what was handed to the system and what is to come are the listing of what was read and of what is still to be read
pub so_far : {start : Bytes} {read sent : List ℕ} {b : Bytes} {p : Play} (output : List ℕ) → Turns start read sent b p
    → start.session ≡ empty_session → start.output ≡ put_at output 0 run_line → room ≤ length output
    → (rest : List ℕ) → (p.held.ended ≡ true → rest ≡ []) → sent ++ to_come rest p b ≡ listing (read ++ rest)
unfolding listing left stretch run_line
so_far {start} output none s o fits rest closed =
    ap₂ (λ (u bs : List ℕ). u ++ listed_from bs rest 0 0) (ap (take (length run_line)) o ∙ text-put output 0 run_line (omega arith)) s
so_far output (next {read} {sent} {before} {after} {play} {r} turns going t) s o fits rest closed =
    append_assoc sent t.roomy.sent (to_come rest r after)
    ∙ ap (λ (u : List ℕ). sent ++ u) (sym (turn-left t rest (goes_over play going) closed))
    ∙ so_far output turns s o fits (t.ready.more ++ rest)
    (λ e. let shut = t.ready.closed e in
    ap₂ (λ (x y : List ℕ). x ++ y) shut.0 (closed (ended_same t ∙ ap (λ (h : Held). h.ended) shut.1 ∙ e)))
    ∙ ap listing (sym (append_assoc read t.ready.more rest))

-- ---- turns are counted

stop_not : (f w : Bool) → not (not f) && not f && w ≡ true → ⊥
stop_not true w e = let z : ◌≡◌ {A = ℕ} 0 1 = cc (e) in omega arith
stop_not false w e = let z : ◌≡◌ {A = ℕ} 0 1 = cc (e) in omega arith

module _ {p : Play} {b a : Bytes} {r : Play} (t : IsTurn p b a r) where
  -- a play that goes on behind a turn has a line more, and can have another
  turn_lines : goes_on r ≡ true → (r.lines ≡ p.lines + 1) × (r.lines ≤ most_records)
  unfolding goes_on
  turn_lines g = of (is_end t.held (bytes t)) refl
    where
      of : (c : Bool) → is_end t.held (bytes t) ≡ c → (r.lines ≡ p.lines + 1) × (r.lines ≤ most_records)
      of true e = absurd (stop_not t.held.failed t.pending.writable (sym (ap goes_on (by_end t true e).0) ∙ g))
      of false e =
          let known = (by_end t false e).0 in
          let few = not_last b.session (bytes t) p.lines (sym (ap (λ (q : Play). q.over) known) ∙ goes_over r g) in
          let lines = ap (λ (q : Play). q.lines) known in
          (lines, omega (arith, lines, few))

  turn-counted : p.accepted ≤ p.lines → r.accepted ≤ r.lines
  turn-counted h = of (is_end t.held (bytes t)) refl
    where
      of : (c : Bool) → is_end t.held (bytes t) ≡ c → r.accepted ≤ r.lines
      of true e =
          let known = (by_end t true e).0 in
          omega (arith, ap (λ (q : Play). q.lines) known, ap (λ (q : Play). q.accepted) known)
      of false e =
          let known = (by_end t false e).0 in
          omega (arith, ap (λ (q : Play). q.lines) known, ap (λ (q : Play). q.accepted) known, one_most (ran t))

-- what a loop over the turns has reached
pub record Going (start b : Bytes) (p : Play) : Type 0 where
  pub read : List ℕ
  pub sent : List ℕ
  pub turns : Turns start read sent b p
  pub few : goes_on p ≡ true → p.lines ≤ most_records
  pub counted : p.accepted ≤ p.lines

pub going_first : (start : Bytes) (p : Play) → p ≡ begun_play → Going start start p
going_first start p e =
    subst (Going start start) (sym e) (record { read = []; sent = []; turns = none; few = λ g. omega arith; counted = omega arith })

pub going_next : {start b a : Bytes} {p r : Play} → Going start b p → goes_on p ≡ true → IsTurn p b a r → Going start a r
going_next g o t = record {
  read = g.read ++ t.ready.more;
  sent = g.sent ++ t.roomy.sent;
  turns = next g.turns o t;
  few = λ n. (turn_lines t n).1;
  counted = turn-counted t g.counted;
}

-- the records that a play can still have
abbrev pub can_have : Play → ℕ
can_have p = cond (goes_on p) (most_records + 1 - p.lines) 0

pub fewer : {b a : Bytes} {p r : Play} → goes_on p ≡ true → p.lines ≤ most_records → IsTurn p b a r → can_have r < can_have p
fewer {b} {a} {p} {r} o h t = rw o (of (goes_on r) refl)
  where
    of : (c : Bool) → goes_on r ≡ c → cond c (most_records + 1 - r.lines) 0 < most_records + 1 - p.lines
    of true g = omega (arith, (turn_lines t g).0)
    of false g = omega arith

-- ---- the last line

pub end-put : (play : Play) (before after : List ℕ) (p r : Pending) (n : ℕ) → play.over ≡ true → HasRoom before play.pending p
    → ((n ≡ length (end_line play.lines play.accepted)) × (n ≤ room)) × (after ≡ put_at before p.filled (end_line play.lines play.accepted))
    → r ≡ with_more n p → IsEnded play before after r
end-put play before after p r n o roomy says e =
    let text : List ℕ = end_line play.lines play.accepted in
    let fits : p.filled + length text ≤ length before = omega (arith, says.0.0, says.0.1, roomy.large) in record {
      sent = roomy.sent;
      text =
          (λ i. roomy.sent ++ take ((ap (λ (q : Pending). q.filled) e ∙ ap (λ (k : ℕ). p.filled + k) says.0.0) i) (says.1 i))
          ∙ ap (λ (s : List ℕ). roomy.sent ++ s) (text-put before p.filled text fits)
          ∙ sym (append_assoc roomy.sent (pending_bytes before p) text)
          ∙ ap₂ (λ (s : List ℕ) (b : Bool). s ++ cond b text []) roomy.rest (sym o);
      writable = λ w. roomy.writable (sym (ap (λ (q : Pending). q.writable) e) ∙ w);
    }

-- ---- THE LISTING

-- once a play is over, what it sent and what is pending are the listing of what it read
pub all_listed : {start after : Bytes} {play : Play} {last : List ℕ} {r : Pending} (output : List ℕ) → (played : IsPlayed start after play)
    → start.session ≡ empty_session → start.output ≡ put_at output 0 run_line → room ≤ length output
    → (end : IsEnded play after.output last r) → play.over ≡ true
    → (played.sent ++ end.sent) ++ pending_bytes last r ≡ listing played.read
unfolding left
all_listed {start} {after} {play} {last} {r} output played s o fits end over =
    append_assoc played.sent end.sent (pending_bytes last r)
    ∙ ap (λ (u : List ℕ). played.sent ++ u) end.text
    ∙ (λ i. played.sent ++ (pending_bytes after.output play.pending ++ line i))
    ∙ so_far output played.turns s o fits [] (λ e. refl)
    ∙ ap listing (append-nil played.read)
  where
    line : cond play.over (end_line play.lines play.accepted) [] ≡ left play.over after.session (held_bytes after.input play.held ++ []) play.lines play.accepted
    line = ap (λ (c : Bool). cond c (end_line play.lines play.accepted) []) over
        ∙ sym (ended after.session (held_bytes after.input play.held ++ []) play.lines play.accepted play.over (λ f. let z : ◌≡◌ {A = ℕ} 0 1 = cc (f, over) in absurd (omega arith)))
