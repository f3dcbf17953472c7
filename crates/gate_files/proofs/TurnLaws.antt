-- THE TURNS OF A FILE ARE THE FILE MOVED: what was handed to the system and what is left are the file that was read, and whatever still comes, moved.
use mathlib.Core.Bool.{Bool, true, false, not, cond, ◌&&◌}
use mathlib.Core.Path.{◌≡◌, refl, sym, ap, ap₂, subst, ◌∙◌}
use mathlib.Core.List.{List, [], ◌++◌, append_assoc, append-nil}
use Prim.Native.Nat.{ℕ, ◌+◌, ◌-◌, ◌*◌, ◌≤◌, ◌<◌}
use native.Mathlib.Decide.{ℕ_discrete}
use native.Mathlib.Omega.{arith}
use borrow.Author.Tests.{ltb-true}
use lib.Dec.{ltb}
use lib.ListN.{length, take, drop, length-append}
use lib.Seq.{drop-append-le}
use Rattle.numbers.proofs.FieldLaws.{field_lt}
use Rattle.framing.specs.Refusals.{none, unless_refused}
use Rattle.framing.proofs.RefusalLaws.{unless-none, unless-some}
use Rattle.gates.specs.declared.forms.Form.{Form}
use Rattle.gate_moving.specs.Moving.{move_answer, move_into}
use Rattle.gate_moving.specs.declared.GatesMoved.{GatesMoved}
use Rattle.gate_moving.proofs.MoveLaws.{took}
use Rattle.holding.specs.declared.Held.{Held}
use Rattle.holding.specs.Held.{stretch, held_bytes, behind_by, is_end}
use Rattle.holding.proofs.HeldLaws.{behind-held, not_end, is-end, none_left}
use Rattle.gate_files.specs.declared.files.File.{File}
use Rattle.gate_files.specs.Files.{FileMoved, longest, blank, first_moved, first_made, refusal_of, nothing_moved, moved_before, file_moved}
use Rattle.std.specs.Prelude.{None, Some}
use Rattle.gate_files.specs.Turns.{refused_by, refusal_in, begun_file, most_packets, goes_on, stopped_at, moved_on, MovesFirst, IsTurn, with_written, Turns, begin, next, IsMoved}
use Rattle.gate_files.proofs.FileLaws.{before-nothing, nothing-behind, before-before, file_none, file_next, answer-held, made_held}

-- what is left of a file, where `rest` is still to be read
abbrev to_come : Form → List ℕ → File → List ℕ → FileMoved
to_come from rest file input = cond file.over (nothing_moved (refusal_in file.refused)) (file_moved from (held_bytes input file.held ++ rest))

-- the three ways that a turn goes: no sub-packet is there, the first one is refused, or it is moved
module _ {from : Form} {file : File} {before after out : List ℕ} {r : File} (t : IsTurn from file before after out r) where
  abbrev first : List ℕ
  first = held_bytes after t.held

  pub data Went : Type 0 where
    at_end : is_end t.held first ≡ true → r ≡ stopped_at file t.held None → take r.made out ≡ [] → Went
    refused : is_end t.held first ≡ false → ((first_moved from first).answer ≡ 0 → ⊥) → r ≡ stopped_at file t.held (Some (refused_by (first_moved from first)))
        → take r.made out ≡ [] → Went
    moved : is_end t.held first ≡ false → (first_moved from first).answer ≡ 0 → r ≡ moved_on file t.held (first_moved from first)
        → take r.made out ≡ first_made from first → Went

  went : Went
  went = of (is_end t.held first) refl (ℕ_discrete (first_moved from first).answer 0)
    where
      rest : File
      rest = unless_refused (first_moved from first).answer (moved_on file t.held (first_moved from first)) (stopped_at file t.held (Some (refused_by (first_moved from first))))

      made : List ℕ
      made = unless_refused (first_moved from first).answer (first_made from first) []

      by_end : (c : Bool) → is_end t.held first ≡ c → (r ≡ cond c (stopped_at file t.held None) rest) × (take r.made out ≡ cond c [] made)
      by_end c e = (t.moves.result ∙ ap (λ (x : Bool). cond x (stopped_at file t.held None) rest) e, t.moves.text ∙ ap (λ (x : Bool). cond x [] made) e)

      of : (c : Bool) → is_end t.held first ≡ c → Dec ((first_moved from first).answer ≡ 0) → Went
      of true e d = at_end e (by_end true e).0 (by_end true e).1
      of false e (yes z) = moved e z ((by_end false e).0 ∙ unless-none _ _ _ z) ((by_end false e).1 ∙ unless-none _ _ _ z)
      of false e (no ne) = refused e ne ((by_end false e).0 ∙ unless-some _ _ _ ne) ((by_end false e).1 ∙ unless-some _ _ _ ne)

  -- the input has ended exactly where it had when the turn was ready
  ended_same : r.held.ended ≡ t.held.ended
  ended_same = of went
    where
      of : Went → r.held.ended ≡ t.held.ended
      of (at_end e k x) = ap (λ (q : File). q.held.ended) k
      of (refused e ne k x) = ap (λ (q : File). q.held.ended) k
      of (moved e z k x) = ap (λ (q : File). q.held.ended) k

  module _ (rest : List ℕ) (shut : r.held.ended ≡ true → rest ≡ []) where
    shut_held : t.held.ended ≡ true → rest ≡ []
    shut_held e = shut (ended_same ∙ e)

    some_left : is_end t.held first ≡ false → length (first ++ rest) ≡ 0 → ⊥
    some_left e z = (not_end t.held first e).1 (omega (arith, length-append first rest))

    answer-same : first_moved from (first ++ rest) ≡ first_moved from first
    answer-same = answer-held from first rest t.held.ended t.ready.enough shut_held

    made_same : first_made from (first ++ rest) ≡ first_made from first
    made_same = made_held from first rest t.held.ended t.ready.enough shut_held

    end-left : is_end t.held first ≡ true → file_moved from (first ++ rest) ≡ cond (not t.held.failed) (nothing_moved none) (file_moved from (first ++ rest))
    end-left e = of t.held.failed refl
      where
        of : (b : Bool) → t.held.failed ≡ b → file_moved from (first ++ rest) ≡ cond (not b) (nothing_moved none) (file_moved from (first ++ rest))
        of true f = refl
        of false f = file_none from (first ++ rest) (none_left longest first rest t.held.ended (omega arith) t.ready.enough shut_held (is-end t.held first e f))

    refused-left : is_end t.held first ≡ false → ((first_moved from first).answer ≡ 0 → ⊥)
        → file_moved from (first ++ rest) ≡ cond (not t.held.failed) (nothing_moved (refusal_of (first_moved from first))) (file_moved from (first ++ rest))
    refused-left e ne =
        file_next from (first ++ rest) (some_left e)
        ∙ unless-some _ _ _ (λ z. ne (sym (ap (λ (a : GatesMoved). a.answer) answer-same) ∙ z))
        ∙ ap (λ (a : GatesMoved). nothing_moved (refusal_of a)) answer-same
        ∙ ap (λ (b : Bool). cond (not b) (nothing_moved (refusal_of (first_moved from first))) (file_moved from (first ++ rest))) (sym (not_end t.held first e).0)

    moved-left : is_end t.held first ≡ false → (first_moved from first).answer ≡ 0
        → file_moved from (first ++ rest)
        ≡ moved_before (first_made from first) 1 (first_moved from first).used (file_moved from (held_bytes after (behind_by (first_moved from first).used t.held) ++ rest))
    moved-left e z =
        let k = took from first blank z in
        let behind : drop (first_moved from first).used (first ++ rest) ≡ held_bytes after (behind_by (first_moved from first).used t.held) ++ rest =
        drop-append-le (first_moved from first).used first rest k.there ∙ ap (λ (s : List ℕ). s ++ rest) (sym (behind-held after t.held (first_moved from first).used)) in
        file_next from (first ++ rest) (some_left e)
        ∙ unless-none _ _ _ (ap (λ (a : GatesMoved). a.answer) answer-same ∙ z)
        ∙ (λ i. moved_before (made_same i) 1 (answer-same i).used (file_moved from (drop (answer-same i).used (first ++ rest))))
        ∙ ap (λ (s : List ℕ). moved_before (first_made from first) 1 (first_moved from first).used (file_moved from s)) behind

    -- what was to come before a turn is what it made and what is to come behind it
    turn-left : (sent : List ℕ) → moved_before sent file.packets file.used (file_moved from (first ++ rest))
        ≡ moved_before (sent ++ take r.made out) r.packets r.used (to_come from rest r after)
    turn-left sent = of went
      where
        Goal : Type 0
        Goal = moved_before sent file.packets file.used (file_moved from (first ++ rest))
            ≡ moved_before (sent ++ take r.made out) r.packets r.used (to_come from rest r after)

        stays : (q : File) → r ≡ q → take r.made out ≡ [] → q.packets ≡ file.packets → q.used ≡ file.used
            → file_moved from (first ++ rest) ≡ to_come from rest q after → Goal
        stays q k x p u e =
            (λ i. moved_before (sym (append-nil sent) i) (sym p i) (sym u i) (e i))
            ∙ sym (λ i. moved_before (sent ++ x i) (k i).packets (k i).used (to_come from rest (k i) after))

        of : Went → Goal
        of (at_end e k x) = stays _ k x refl refl (end-left e)
        of (refused e ne k x) = stays _ k x refl refl (refused-left e ne)
        of (moved e z k x) =
            ap (moved_before sent file.packets file.used) (moved-left e z)
            ∙ before-before sent (first_made from first) file.packets 1 file.used (first_moved from first).used _
            ∙ sym (λ i. moved_before (sent ++ x i) (k i).packets (k i).used (to_come from rest (k i) after))

-- ---- the first sub-packet, moved or not

module _ (from : Form) (file : File) (held : Held) (first : List ℕ) where
  abbrev answered : File
  answered =
      unless_refused (first_moved from first).answer (moved_on file held (first_moved from first)) (stopped_at file held (Some (refused_by (first_moved from first))))

  abbrev made : List ℕ
  made = unless_refused (first_moved from first).answer (first_made from first) []

  -- `moved` is what the move into a blank output answered, and `out` what it left
  module _ {moved : GatesMoved} {before out : List ℕ} (some : is_end held first ≡ false) (clear : before ≡ blank) (answers : moved ≡ move_answer from first before)
      (leaves : out ≡ move_into from first before) where
    says : moved ≡ first_moved from first
    says = answers ∙ ap (move_answer from first) clear

    left : out ≡ move_into from first blank
    left = leaves ∙ ap (move_into from first) clear

    pub moves-refused : {r : File} → (moved.answer ≡ 0 → ⊥) → r ≡ stopped_at file held (Some (refused_by moved)) → MovesFirst from file held first out r
    moves-refused ne k =
        let is : (first_moved from first).answer ≡ 0 → ⊥ = λ z. ne (ap (λ (a : GatesMoved). a.answer) says ∙ z) in record {
          result = k ∙ ap (λ (a : GatesMoved). stopped_at file held (Some (refused_by a))) says ∙ sym (unless-some _ _ _ is)
              ∙ ap (λ (b : Bool). cond b (stopped_at file held None) answered) (sym some);
          text = ap (λ (q : File). take q.made out) k ∙ sym (unless-some _ _ _ is) ∙ ap (λ (b : Bool). cond b [] made) (sym some);
        }

    accepted : moved.answer ≡ 0 → (first_moved from first).answer ≡ 0
    accepted z = sym (ap (λ (a : GatesMoved). a.answer) says) ∙ z

    pub moves-one : {r : File} → moved.answer ≡ 0 → r ≡ moved_on file held moved → MovesFirst from file held first out r
    moves-one z k = record {
      result = k ∙ ap (moved_on file held) says ∙ sym (unless-none _ _ _ (accepted z)) ∙ ap (λ (b : Bool). cond b (stopped_at file held None) answered) (sym some);
      text = (λ i. take ((ap (λ (q : File). q.made) k ∙ ap (λ (a : GatesMoved). a.written) says) i) (left i)) ∙ sym (unless-none _ _ _ (accepted z))
          ∙ ap (λ (b : Bool). cond b [] made) (sym some);
    }

    -- its bytes are a sub-packet's
    pub one-short : moved.answer ≡ 0 → moved.used ≤ longest
    one-short z = omega (arith, ap (λ (a : GatesMoved). a.used) says, (took from first blank (accepted z)).used, field_lt first 4 7)

-- ---- ALL TURNS

goes : (a b c d : Bool) → not a && not b && c && d ≡ true → (a ≡ false) × (b ≡ false) × (d ≡ true)
goes true b c d e = let z : ◌≡◌ {A = ℕ} 0 1 = cc (e) in absurd (omega arith)
goes false true c d e = let z : ◌≡◌ {A = ℕ} 0 1 = cc (e) in absurd (omega arith)
goes false false true d e = (refl, refl, e)
goes false false false d e = let z : ◌≡◌ {A = ℕ} 0 1 = cc (e) in absurd (omega arith)

-- a file that goes on is not over, can be read, and has not the most sub-packets
pub goes_on_lem : (file : File) → goes_on file ≡ true → (file.over ≡ false) × (file.held.failed ≡ false) × (file.packets < most_packets)
unfolding goes_on
goes_on_lem file e =
    let g = goes file.over file.held.failed file.writable (ltb file.packets most_packets) e in
    (g.0, g.1, ltb-true _ _ g.2)

-- what was handed to the system and what is to come are what was read and is still to be read, moved
so_far : {from : Form} {start read sent input : List ℕ} {file : File} → Turns from start read sent input file
    → (rest : List ℕ) → (file.held.ended ≡ true → rest ≡ []) → file_moved from (read ++ rest) ≡ moved_before sent file.packets file.used (to_come from rest file input)
unfolding stretch
so_far {from} begin rest shut = before-nothing (file_moved from rest)
so_far {from} (next {read} {sent} {before} {after} {out} {file} {r} turns going t writable) rest shut =
    ap (file_moved from) (append_assoc read t.ready.more rest)
    ∙ so_far turns (t.ready.more ++ rest)
    (λ e. let closed = t.ready.closed e in
    ap₂ (λ (x y : List ℕ). x ++ y) closed.0 (shut (ended_same t ∙ ap (λ (h : Held). h.ended) closed.1 ∙ e)))
    ∙ (λ i. moved_before sent file.packets file.used (cond ((goes_on_lem file going).0 i) (nothing_moved (refusal_in file.refused)) (file_moved from (kept i))))
    ∙ turn-left t rest shut sent
  where
    kept : held_bytes before file.held ++ (t.ready.more ++ rest) ≡ held_bytes after t.held ++ rest
    kept = sym (append_assoc (held_bytes before file.held) t.ready.more rest) ∙ ap (λ (s : List ℕ). s ++ rest) (sym t.ready.kept)

-- ---- turns are counted

-- turns so far; those sub-packets were none longer than the longest
pub record Going (from : Form) (start input : List ℕ) (file : File) : Type 0 where
  pub read : List ℕ
  pub sent : List ℕ
  pub turns : Turns from start read sent input file
  pub short : file.used ≤ longest * file.packets

pub going_first : (from : Form) (start : List ℕ) {file : File} → file ≡ begun_file → Going from start start file
going_first from start e = subst (Going from start start) (sym e) (record { read = []; sent = []; turns = begin; short = omega arith })

module _ {from : Form} {file : File} {before after out : List ℕ} {r : File} (t : IsTurn from file before after out r) where
  turn-short : file.used ≤ longest * file.packets → r.used ≤ longest * r.packets
  turn-short h = of (went t)
    where
      of : Went t → r.used ≤ longest * r.packets
      of (at_end e k x) = omega (arith, ap (λ (q : File). q.used) k, ap (λ (q : File). q.packets) k)
      of (refused e ne k x) = omega (arith, ap (λ (q : File). q.used) k, ap (λ (q : File). q.packets) k)
      of (moved e z k x) =
          omega (arith, ap (λ (q : File). q.used) k, ap (λ (q : File). q.packets) k, (took from (first t) blank z).used, field_lt (first t) 4 7)

  -- a file that goes on behind a turn has a sub-packet more
  turn-packets : (writable : Bool) → goes_on (with_written writable r) ≡ true → r.packets ≡ file.packets + 1
  turn-packets writable g = of (went t)
    where
      stopped : (failed : Bool) → r.over ≡ not failed → r.held.failed ≡ failed → ⊥
      stopped failed o f =
          let on = goes_on_lem (with_written writable r) g in
          let z : ◌≡◌ {A = Bool} true false = ap not (sym on.1 ∙ f) ∙ sym o ∙ on.0 in
          let y : ◌≡◌ {A = ℕ} 0 1 = cc (z) in
          omega arith

      of : Went t → r.packets ≡ file.packets + 1
      of (at_end e k x) = absurd (stopped t.held.failed (ap (λ (q : File). q.over) k) (ap (λ (q : File). q.held.failed) k))
      of (refused e ne k x) = absurd (stopped t.held.failed (ap (λ (q : File). q.over) k) (ap (λ (q : File). q.held.failed) k))
      of (moved e z k x) = ap (λ (q : File). q.packets) k

pub going_next : {from : Form} {start before after out : List ℕ} {file r w : File} → Going from start before file → goes_on file ≡ true
    → IsTurn from file before after out r → w ≡ with_written w.writable r → Going from start after w
going_next {r = r} {w = w} g on t e =
    subst (Going _ _ _) (sym e) (record { read = _; sent = _; turns = next g.turns on t w.writable; short = turn-short t g.short })

-- the sub-packets that a file can still have
abbrev pub can_have : File → ℕ
can_have file = cond (goes_on file) (most_packets - file.packets) 0

pub fewer : {from : Form} {before after out : List ℕ} {file r w : File} → goes_on file ≡ true → IsTurn from file before after out r
    → w ≡ with_written w.writable r → can_have w < can_have file
fewer {file = file} {r = r} {w = w} on t e =
    rw on (subst (λ (q : File). can_have q < most_packets - file.packets) (sym e) (of (goes_on (with_written w.writable r)) refl))
  where
    of : (c : Bool) → goes_on (with_written w.writable r) ≡ c → can_have (with_written w.writable r) < most_packets - file.packets
    of true g = rw g (omega (arith, turn-packets t w.writable g, (goes_on_lem file on).2))
    of false g = rw g (omega (arith, (goes_on_lem file on).2))

-- THE FILE IS MOVED once it is over
pub all_moved_lem : {from : Form} {start input : List ℕ} {file : File} → Going from start input file → goes_on file ≡ false → IsMoved from start input file
all_moved_lem {from} {start} {input} {file} g stop = record {
  read = g.read;
  sent = g.sent;
  turns = g.turns;
  stopped = stop;
  moved = λ over.
      ap (file_moved from) (sym (append-nil g.read))
      ∙ so_far g.turns [] (λ e. refl)
      ∙ ap (λ (b : Bool). moved_before g.sent file.packets file.used (cond b (nothing_moved (refusal_in file.refused)) (file_moved from (held_bytes input file.held ++ [])))) over
      ∙ nothing-behind g.sent file.packets file.used (refusal_in file.refused);
}
