-- What is proved of gates that are moved, said by itself: what can be moved, both ways there and back, and that nothing else counts or is changed.
use Rattle.std.specs.Prelude.{◌≡◌, List, ◌++◌, ℕ, ◌%◌, ◌≤◌, ◌<◌, length, take, drop}
use Rattle.numbers.specs.Fields.{field}
use Rattle.framing.specs.Refusals.{none, length_not_for_count}
use Rattle.framing.specs.Framing.{length_of}
use Rattle.profiles.specs.Profiles.{count_of, bytes_for}
use Rattle.profiles.specs.Promised.{AreBytes}
use Rattle.gates.specs.Gates.{bits_with}
use Rattle.gates.specs.Forms.{layout_of, other_form, profile_in}
use Rattle.gates.specs.{declared.forms.Form.Form, declared.forms.Form.TheVariants.Old, declared.forms.Form.TheVariants.New}
use Rattle.gate_moving.specs.Moving.{moved_size, packet_refusal, judged_refusal, move_refusal, moved_with, move_answer, move_into}

-- a sub-packet of a form that is valid, and a move that is accepted
abbrev pub Valid : Form → List ℕ → Type 0
Valid form s = (packet_refusal form s).number ≡ 0

abbrev pub Moved : Form → List ℕ → List ℕ → Type 0
Moved from s o = (move_refusal from s (length o)).number ≡ 0

-- the gates of a sub-packet, and where gate i starts, with its distance; gates are counted from 0
abbrev pub gates_in : Form → List ℕ → ℕ
gates_in form s = count_of (profile_in form) s

abbrev pub gate_at : Form → ℕ → ℕ
gate_at form i = bits_with (layout_of form).distance i

abbrev pub distance_at : Form → List ℕ → ℕ → ℕ
distance_at form s i = field s (gate_at form i) (layout_of form).distance

-- a distance of the new form that the old one can say
abbrev pub GoesBack : ℕ → Type 0
GoesBack metres = (metres % 10 ≡ 0) × (metres ≤ 5110)

-- the place is q, of a distance that does not go back, and those before it do
pub record FirstStuck (s : List ℕ) (q : ℕ) : Type 0 where
  pub gate : ℕ
  pub there : gate < gates_in New s
  pub place : q ≡ gate_at New gate
  pub stuck : GoesBack (distance_at New s gate) → ⊥
  pub before : (i : ℕ) → i < gate → GoesBack (distance_at New s i)

pub record Moves : Type 0 where
  -- FORWARD works for every valid old list of at most 28 gates, given room
  pub forward_works : (s : List ℕ) (room : ℕ) → Valid Old s → gates_in Old s ≤ 28 → bytes_for (bits_with 15 (gates_in Old s)) ≤ room → move_refusal Old s room ≡ none
  -- BACK is refused with 6 for a valid new list exactly when a distance is no multiple of 10 or above 5,110, and the place is the first such one
  pub back_stuck : (s : List ℕ) (room : ℕ) → (move_refusal New s room).number ≡ 6 → Valid New s × FirstStuck s (move_refusal New s room).place
  pub back_refused : (s : List ℕ) (room i : ℕ) → Valid New s → i < gates_in New s → (GoesBack (distance_at New s i) → ⊥) → (move_refusal New s room).number ≡ 6
  -- and works for every other, given room
  pub back_works : (s : List ℕ) (room : ℕ) → Valid New s → ((i : ℕ) → i < gates_in New s → GoesBack (distance_at New s i))
      → bytes_for (bits_with 9 (gates_in New s)) ≤ room → move_refusal New s room ≡ none
  -- A LIST OF THE OTHER FORM, of a gate or more, is refused with 3 at its count: no list has both forms
  pub one_form : (form : Form) (s : List ℕ) (room : ℕ) → Valid form s → 0 < gates_in form s → move_refusal (other_form form) s room ≡ length_not_for_count
  -- ROOM for the most gates of the other form, 125 bytes forward and 115 back, is never too little
  pub roomy : (from : Form) (s : List ℕ) (room : ℕ) → bytes_for (bits_with (layout_of (other_form from)).distance (layout_of (other_form from)).most) ≤ room
      → move_refusal from s room ≡ judged_refusal from s
  -- THERE AND BACK, from either form: what was moved goes back, given room, with the same gates and bytes, and gives the sub-packet again
  pub there_and_back : (from : Form) (s o out : List ℕ) → AreBytes s → AreBytes out → Moved from s o → length_of s ≤ length out
      → (move_answer (other_form from) (move_into from s o) out
      ≡ moved_with (move_answer from s o).gates (move_answer from s o).written (move_answer from s o).used)
      × (take (length_of s) (move_into (other_form from) (move_into from s o) out) ≡ take (length_of s) s)
  -- WHAT FOLLOWS the sub-packet is not read: neither the answer nor the output hangs on it, whether the move is accepted or refused
  pub unread : (from : Form) (s more o : List ℕ) → 2 ≤ length s → length_of s ≤ length s
      → (move_answer from (s ++ more) o ≡ move_answer from s o) × (move_into from (s ++ more) o ≡ move_into from s o)
  -- WHAT LIES BEHIND in the output stays, and a refusal leaves all of it
  pub behind : (from : Form) (s o : List ℕ) → AreBytes o → Moved from s o → drop (moved_size from s) (move_into from s o) ≡ drop (moved_size from s) o
  pub left : (from : Form) (s o : List ℕ) → (Moved from s o → ⊥) → move_into from s o ≡ o
