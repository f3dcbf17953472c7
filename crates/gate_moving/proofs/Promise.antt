-- GATES THAT ARE MOVED KEEP THE PROMISE.
use mathlib.Core.Path.{◌≡◌, refl, sym, ap, subst, ◌∙◌}
use mathlib.Core.List.{List}
use Prim.Native.Nat.{ℕ, zero, suc, ◌+◌, ◌*◌, ◌≤◌, ◌<◌}
use native.Mathlib.Decide.{ℕ_discrete}
use native.Mathlib.Omega.{arith}
use lib.ListN.{length, take, drop}
use Rattle.numbers.specs.Pieces.{times, unpack}
use Rattle.numbers.proofs.FieldLaws.{Bytes, field_lt}
use Rattle.framing.specs.Refusals.{none, length_not_for_count}
use Rattle.framing.specs.Framing.{length_of, head_refusal}
use Rattle.framing.specs.Refusals.{Refusal}
use Rattle.framing.proofs.PlaceLaws.{head-told, head_few}
use Rattle.framing.proofs.RefusalLaws.{same_number, or_else-first, or_else_go, or_else-stop, next, ends, not_below, last_differ, last_not_below, along, tested, Clear, clear-or_else, unless-none, unless-some}
use Rattle.profiles.specs.Profiles.{Profile, count_of, bytes_for}
use Rattle.profiles.specs.Reading.{entries_of, bits_of, shape_refusal, read_refusal}
use Rattle.profiles.specs.Writing.{written, write_refusal}
use Rattle.profiles.proofs.ReadingLaws.{accepted}
use Rattle.profiles.proofs.PlaceLaws.{Told, at_header, at_count, at_entry, at_padding, told}
use Rattle.profiles.proofs.RoundTrip.{Wrote, wrote, read-accepts, write_read, written_past}
use Rattle.gates.specs.Gates.{gate_bits, gate_type, gate_bytes, gate_widths, bits_with}
use Rattle.gates.specs.Forms.{layout_of, other_form, profile_in}
use Rattle.gates.specs.{declared.forms.Form.Form, declared.forms.Form.TheVariants.Old, declared.forms.Form.TheVariants.New}
use Rattle.gates.proofs.GateLaws.{regular_in, form_wide, bits-read, sayable, full, each_form, other-other}
use Rattle.gate_reading.proofs.ReadingLaws.{gates_entries}
use Rattle.gate_moving.specs.Moving.{distances_refusal, restated, moved_gates, moved_size, packet_refusal, judged_refusal, move_refusal, moved_with, move_answer, move_into}
use Rattle.gate_moving.specs.Moves.{Valid, Moved, gates_in, distance_at, GoesBack, FirstStuck, Moves}
use Rattle.gate_moving.specs.declared.GatesMoved.{GatesMoved}
use Rattle.gate_moving.proofs.ListLaws.{distances-taken, restated_again}
use Rattle.gate_moving.proofs.MoveLaws.{Judged, judged, at_packet, listed, length_gates, length_moved, count-moved, size-moved, writer_takes}
use Rattle.gate_moving.proofs.DistanceLaws.{Says}
use Rattle.gate_moving.proofs.StuckLaws.{all_said, each_said, FirstUnsaid, DistancesTold, all_of_them, one_of_them, distances-told}
use Rattle.gate_moving.proofs.BehindLaws.{move_unread}

-- ---- what is accepted

head_valid : (form : Form) (s : List ℕ) → Valid form s → (head_refusal s gate_type gate_type).number ≡ 0
unfolding read_refusal shape_refusal
head_valid form s e = or_else-first _ _ (or_else-first _ _ e)

-- a valid sub-packet of few enough gates with distances that can be moved, and room for it
pub accepts : (from : Form) (s : List ℕ) (room : ℕ) → Judged from s → moved_size from s ≤ room → none ≡ move_refusal from s room
unfolding move_refusal judged_refusal
accepts from s room g fits =
    let clear : (judged_refusal from s).number ≡ 0 =
    same_number (or_else_go _ _ (head_valid from s g.valid) ∙ sym (not_below (layout_of (other_form from)).most (count_of (profile_in from) s) _ _ g.few (next _ _ g.valid refl))) ∙ g.distances in
    next _ _ clear (last_not_below room (moved_size from s) _ fits)

-- ---- room for the most gates is room for all of them

distances-clear : (from : Form) (p : ℕ) (list : List ℕ) (n : ℕ) → Clear (distances_refusal from p list n)
unfolding distances_refusal
distances-clear from p list zero = λ z. refl
distances-clear from p list (suc n) = clear-or_else _ _ (distances-clear from (p + gate_bits (layout_of from).distance) _ n)

judged-clear : (from : Form) (s : List ℕ) → Clear (judged_refusal from s)
unfolding judged_refusal
judged-clear from s = clear-or_else _ _ (clear-or_else _ _ (clear-or_else _ _ (distances-clear from _ _ _)))

most_size : (form : Form) (n : ℕ) → n ≤ (layout_of form).most → bytes_for (bits_with (layout_of form).distance n) ≤ bytes_for (bits_with (layout_of form).distance (layout_of form).most)
unfolding layout_of
most_size = each_form (λ (f : Form). (n : ℕ) → n ≤ (layout_of f).most → bytes_for (bits_with (layout_of f).distance n) ≤ bytes_for (bits_with (layout_of f).distance (layout_of f).most))
    (λ n h. omega arith) (λ n h. omega arith)

roomy : (from : Form) (s : List ℕ) (room : ℕ) → bytes_for (bits_with (layout_of (other_form from)).distance (layout_of (other_form from)).most) ≤ room
    → move_refusal from s room ≡ judged_refusal from s
unfolding move_refusal
roomy from s room fits = of (ℕ_discrete (judged_refusal from s).number 0)
  where
    of : Dec ((judged_refusal from s).number ≡ 0) → move_refusal from s room ≡ judged_refusal from s
    of (yes z) =
        let small : moved_size from s ≤ room = omega (arith, most_size (other_form from) (count_of (profile_in from) s) (judged from s z).few) in
        or_else_go _ _ z ∙ sym (last_not_below room (moved_size from s) _ small) ∙ judged-clear from s z
    of (no ne) = sym (or_else-stop _ _ ne)

-- ---- a list of the other form

-- with a gate or more the two forms have different lengths
old_shorter : (n : ℕ) → 0 < n → bytes_for (bits_with 9 n) ≡ bytes_for (bits_with 15 n) → ⊥
old_shorter zero some e = omega arith
old_shorter (suc zero) some e = omega arith
old_shorter (suc (suc n)) some e = omega arith

other_length : (form : Form) (n : ℕ) → 0 < n → bytes_for (bits_with (layout_of form).distance n) ≡ bytes_for (bits_with (layout_of (other_form form)).distance n) → ⊥
unfolding layout_of other_form
other_length = each_form
    (λ (f : Form). (n : ℕ) → 0 < n → bytes_for (bits_with (layout_of f).distance n) ≡ bytes_for (bits_with (layout_of (other_form f)).distance n) → ⊥)
    old_shorter (λ n some e. old_shorter n some (sym e))

one_form : (form : Form) (s : List ℕ) (room : ℕ) → Valid form s → 0 < gates_in form s → move_refusal (other_form form) s room ≡ length_not_for_count
unfolding read_refusal shape_refusal
one_form form s room valid some =
    sym (at_packet other s room head few length_not_for_count wrong (λ z. omega arith))
  where
    other : Form
    other = other_form form

    n : ℕ
    n = gates_in form s

    head : (head_refusal s gate_type gate_type).number ≡ 0
    head = head_valid form s valid

    size : length_of s ≡ bytes_for (bits_with (layout_of form).distance n)
    size = (accepted (profile_in form) s (gate_bytes * n) valid).length_right ∙ ap bytes_for (bits-read (layout_of form).distance (form_wide form) s)

    few : n ≤ (layout_of (other_form other)).most
    few = subst (λ (f : Form). n ≤ (layout_of f).most) (sym (other-other form))
        (full form s (omega (arith, (accepted (profile_in form) s (gate_bytes * n) valid).length_right, field_lt s 4 7)))

    differs : length_of s ≡ bytes_for (bits_of (profile_in other) s) → ⊥
    differs e = other_length form n some (sym size ∙ e ∙ ap bytes_for (bits-read (layout_of other).distance (form_wide other) s))

    wrong : length_not_for_count ≡ packet_refusal other s
    wrong = ends _ _ (next _ _ head (last_differ (length_of s) (bytes_for (bits_of (profile_in other) s)) _ differs)) (λ z. omega arith)

-- ---- there and back

module _ (from : Form) (s o : List ℕ) (e : Moved from s o) where
  abbrev to : Form
  to = other_form from

  abbrev f : Profile
  f = profile_in from

  abbrev t : Profile
  t = profile_in to

  abbrev n : ℕ
  n = count_of f s

  abbrev list : List ℕ
  list = moved_gates from s

  abbrev made : List ℕ
  made = written t list o

  clear : (judged_refusal from s).number ≡ 0
  unfolding move_refusal
  clear = or_else-first _ _ e

  g : Judged from s
  g = judged from s clear

  takes : (write_refusal t (layout_of to).most list (length o)).number ≡ 0
  takes = writer_takes from s o _ refl e

  says : Wrote t list made
  says = wrote t (regular_in to) (layout_of to).most (sayable to) list o takes

  counted : count_of t made ≡ n
  counted = says.counted ∙ count-moved from s

  long : length (entries_of f s) ≡ gate_bytes * n
  long = length_gates from s

  size : length_of s ≡ bytes_for (bits_with (layout_of from).distance n)
  size = (accepted f s (gate_bytes * n) g.valid).length_right ∙ ap bytes_for (bits-read (layout_of from).distance (form_wide from) s)

  -- what was written can be moved
  moves_again : Judged to made
  moves_again = record {
    few = subst (λ (form : Form). count_of t made ≤ (layout_of form).most) (sym (other-other from))
        (subst (λ (k : ℕ). k ≤ (layout_of from).most) (sym counted) (full from s (omega (arith, (accepted f s (gate_bytes * n) g.valid).length_right, field_lt s 4 7))));
    valid = read-accepts t (regular_in to) (layout_of to).most (sayable to) list o (gate_bytes * count_of t made) takes (omega (arith, length_moved from s, counted));
    distances = same_number (λ i. distances_refusal to 16 (says.entries i) (counted i))
        ∙ distances-taken from (entries_of f s) 16 16 n (omega (arith, long)) (listed from s g) g.distances;
  }

  size_again : moved_size to made ≡ length_of s
  size_again = (λ i. bytes_for (bits_with (layout_of (other-other from i)).distance (counted i))) ∙ sym size

  -- and its gates are the same again
  gates_again : moved_gates to made ≡ entries_of f s
  gates_again =
      (λ i. restated to (says.entries i) (counted i)) ∙ restated_again from (entries_of f s) 16 n (omega (arith, long)) (listed from s g) g.distances

  module _ (out : List ℕ) (fits : length_of s ≤ length out) where
    accepted_again : (move_refusal to made (length out)).number ≡ 0
    accepted_again = same_number (sym (accepts to made (length out) moves_again (omega (arith, size_again))))

    made_is : move_into from s o ≡ made
    unfolding move_into
    made_is = unless-none _ _ _ e

    answer_again : move_answer to made out ≡ moved_with (move_answer from s o).gates (move_answer from s o).written (move_answer from s o).used
    unfolding move_answer
    answer_again =
        unless-none _ _ _ accepted_again
        ∙ (λ i. moved_with (counted i) ((says.sized ∙ size-moved from s) i) (size_again i))
        ∙ ap (λ (a : GatesMoved). moved_with a.gates a.written a.used) (sym (unless-none _ _ _ e))

    bytes_again : Bytes s → Bytes out → take (length_of s) (move_into to made out) ≡ take (length_of s) s
    unfolding move_into
    bytes_again hs ho =
        ap (take (length_of s)) (unless-none _ _ _ accepted_again)
        ∙ (λ i. take (length_of s) (written (profile_in (other-other from i)) (gates_again i) out))
        ∙ write_read f (regular_in from) s out (gate_bytes * n) hs ho g.valid fits

    pub there_and_back : Bytes s → Bytes out
        → (move_answer to (move_into from s o) out ≡ moved_with (move_answer from s o).gates (move_answer from s o).written (move_answer from s o).used)
        × (take (length_of s) (move_into to (move_into from s o) out) ≡ take (length_of s) s)
    there_and_back hs ho = rw made_is (answer_again, bytes_again hs ho)

-- ---- what can be moved

-- the gates of a sub-packet by their bits
by_bits : (form : Form) (s : List ℕ) → distances_refusal form 16 (entries_of (profile_in form) s) (gates_in form s)
    ≡ distances_refusal form 16 (unpack s 16 (times (gates_in form s) (gate_widths (layout_of form).distance))) (gates_in form s)
by_bits form s = ap (λ (list : List ℕ). distances_refusal form 16 list (gates_in form s)) (sym (gates_entries (layout_of form).distance s (form_wide form) (gates_in form s) refl))

forward_works : (s : List ℕ) (room : ℕ) → Valid Old s → gates_in Old s ≤ 28 → bytes_for (bits_with 15 (gates_in Old s)) ≤ room → move_refusal Old s room ≡ none
unfolding layout_of other_form
forward_works s room valid few fits =
    sym (accepts Old s room (record {
      few = few;
      valid = valid;
      distances = same_number (by_bits Old s ∙ all_said Old s 16 (gates_in Old s) (λ i l. (omega arith, omega (arith, field_lt s (16 + 29 * i) 9))));
    }) fits)

few-counted : (s : List ℕ) → gates_in New s ≤ 31
few-counted s = omega (arith, field_lt s 11 5)

back_works : (s : List ℕ) (room : ℕ) → Valid New s → ((i : ℕ) → i < gates_in New s → GoesBack (distance_at New s i))
    → bytes_for (bits_with 9 (gates_in New s)) ≤ room → move_refusal New s room ≡ none
unfolding layout_of other_form
back_works s room valid goes fits =
    sym (accepts New s room (record {
      few = few-counted s;
      valid = valid;
      distances = same_number (by_bits New s ∙ all_said New s 16 (gates_in New s) (λ i l. (omega (arith, (goes i l).0), omega (arith, (goes i l).1))));
    }) fits)

-- of a valid new list the distances alone are judged before the room
judged_valid : (s : List ℕ) → Valid New s → judged_refusal New s ≡ distances_refusal New 16 (entries_of (profile_in New) s) (gates_in New s)
unfolding judged_refusal layout_of other_form
judged_valid s valid =
    or_else_go _ _ (head_valid New s valid)
    ∙ sym (not_below 31 (gates_in New s) _ _ (few-counted s) refl)
    ∙ or_else_go _ _ valid

goes_back : (distance : ℕ) → Says Old (distance * (layout_of New).unit) → GoesBack distance
unfolding layout_of
goes_back distance says = (omega (arith, says.0), omega (arith, says.1))

back_says : (distance : ℕ) → GoesBack distance → Says Old (distance * (layout_of New).unit)
unfolding layout_of
back_says distance goes = (omega (arith, goes.0), omega (arith, goes.1))

back_refused : (s : List ℕ) (room i : ℕ) → Valid New s → i < gates_in New s → (GoesBack (distance_at New s i) → ⊥) → (move_refusal New s room).number ≡ 6
unfolding move_refusal other_form
back_refused s room i valid l stuck = of (distances-told New s 16 (gates_in New s))
  where
    r : Refusal
    r = distances_refusal New 16 (unpack s 16 (times (gates_in New s) (gate_widths (layout_of New).distance))) (gates_in New s)

    same : judged_refusal New s ≡ r
    same = judged_valid s valid ∙ by_bits New s

    of : DistancesTold New s 16 (gates_in New s) r → (move_refusal New s room).number ≡ 6
    of (all_of_them e) = absurd (stuck (goes_back _ (each_said New s 16 (gates_in New s) (same_number e) i l)))
    of (one_of_them six w) =
        let first : (judged_refusal New s).number ≡ 6 = same_number same ∙ six in
        sym (same_number (or_else-stop (judged_refusal New s) _ (λ z. omega arith))) ∙ first

first-stuck : (s : List ℕ) (q : ℕ) → FirstUnsaid New s 16 (gates_in New s) q → FirstStuck s q
unfolding other_form
first-stuck s q w = record {
  gate = w.gate;
  there = w.inside;
  place = w.place;
  stuck = λ goes. w.unsaid (back_says _ goes);
  before = λ i l. goes_back _ (w.before i l);
}

-- no other ground has this number
below_six : {f : Profile} {s : List ℕ} {r : Refusal} → Told f s r → r.number ≡ 6 → ⊥
below_six (at_header t) e = omega (arith, head_few t)
below_six (at_count n p long) e = omega arith
below_six (at_entry n w in-it) e = omega arith
below_six (at_padding n w in-it) e = omega arith

back_stuck : (s : List ℕ) (room : ℕ) → (move_refusal New s room).number ≡ 6 → Valid New s × FirstStuck s (move_refusal New s room).place
unfolding move_refusal judged_refusal
back_stuck s room =
    along Six _ _
    (λ ne. along Six _ _ (λ x six. absurd (omega (arith, head_few (head-told s gate_type gate_type))))
    (λ z₁. along Six _ _ (λ x. tested Six _ _ (λ e six. absurd (omega arith)) (λ e six. absurd (omega arith)))
    (λ z₂. along Six _ _ (λ x six. absurd (below_six (told (profile_in New) (regular_in New) s (gate_bytes * gates_in New s)) six))
    (λ valid six. (valid, of (distances-told New s 16 (gates_in New s)) six)))))
    (λ z. tested Six _ _ (λ e six. absurd (omega arith)) (λ e six. absurd (omega arith)))
  where
    Six : Refusal → Type 0
    Six r = r.number ≡ 6 → Valid New s × FirstStuck s r.place

    d : Refusal
    d = distances_refusal New 16 (entries_of (profile_in New) s) (gates_in New s)

    of : DistancesTold New s 16 (gates_in New s) (distances_refusal New 16 (unpack s 16 (times (gates_in New s) (gate_widths (layout_of New).distance))) (gates_in New s))
        → d.number ≡ 6 → FirstStuck s d.place
    of (all_of_them e) six = absurd (omega (arith, same_number (by_bits New s ∙ e)))
    of (one_of_them n w) six = first-stuck s d.place (subst (λ (r : Refusal). FirstUnsaid New s 16 (gates_in New s) r.place) (sym (by_bits New s)) w)

-- ---- and the output

behind : (from : Form) (s o : List ℕ) → Bytes o → Moved from s o → drop (moved_size from s) (move_into from s o) ≡ drop (moved_size from s) o
unfolding move_into
behind from s o ho e =
    ap (drop (moved_size from s)) (unless-none _ _ _ e)
    ∙ subst (λ (k : ℕ). drop k (written (profile_in (other_form from)) (moved_gates from s) o) ≡ drop k o) (size-moved from s) (written_past (profile_in (other_form from)) (moved_gates from s) o ho)

left : (from : Form) (s o : List ℕ) → (Moved from s o → ⊥) → move_into from s o ≡ o
unfolding move_into
left from s o not = unless-some _ _ _ not

-- WHAT IS PROVED of gates that are moved
pub moves : Moves
moves = record {
  forward_works = forward_works;
  back_stuck = back_stuck;
  back_refused = back_refused;
  back_works = back_works;
  one_form = one_form;
  roomy = roomy;
  there_and_back = λ from s o out hs ho e fits. there_and_back from s o e out fits hs ho;
  unread = move_unread;
  behind = behind;
  left = left;
}
