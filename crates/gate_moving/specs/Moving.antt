-- Gates moved from one form to the other (document 02, T-07): a sub-packet of the form `from` is read, each distance is said in the other form, and
-- the gates are written in that form. s is the bytes lent, of which the first sub-packet is moved, and o is what the output held.
use Rattle.std.specs.Prelude.{ℕ, zero, suc, ◌+◌, ◌*◌, ◌/◌, ◌%◌, List, ◌∷◌, ◌++◌}
use lib.{ListN.length, ListN.get_or, ListN.take, ListN.drop, Dec.ltb}
use Rattle.framing.specs.Refusals.{nowhere, none, too_many_to_move, distance_stuck, refuse, or_else, unless_refused}
use Rattle.framing.specs.Framing.{length_of, head_refusal}
use Rattle.framing.specs.Refusals.{Refusal}
use Rattle.profiles.specs.Profiles.{count_of, first_at, bytes_for}
use Rattle.profiles.specs.Reading.{entries_of, read_refusal, room_refusal}
use Rattle.profiles.specs.Writing.{written}
use Rattle.gates.specs.Gates.{gate_type, gate_bytes, gate_bits, bits_with}
use Rattle.gates.specs.Forms.{layout_of, other_form, profile_in}
use Rattle.gates.specs.declared.forms.Form.{Form}
use Rattle.gate_moving.specs.declared.GatesMoved.{GatesMoved}

-- the metres that the distance of a gate means, by the gate's first two bytes outside
abbrev pub metres_of : Form → List ℕ → ℕ
metres_of form gate = (get_or gate 0 0 * 256 + get_or gate 1 0) * (layout_of form).unit

-- a form can say so many metres where they are a multiple of its unit, and not beyond its farthest. The distance starts at bit p
unfoldable pub distance_refusal : Form → ℕ → ℕ → Refusal
distance_refusal to p metres =
    or_else (refuse (ltb 0 (metres % (layout_of to).unit)) (distance_stuck p)) (refuse (ltb (layout_of to).farthest metres) (distance_stuck p))

-- the first refusal of the distances of the first n gates of a list, of which the first starts at bit p of the sub-packet
unfoldable pub distances_refusal : Form → ℕ → List ℕ → ℕ → Refusal
distances_refusal from p list zero = none
distances_refusal from p list (suc n) =
    or_else (distance_refusal (other_form from) p (metres_of from list))
    (distances_refusal from (p + gate_bits (layout_of from).distance) (drop gate_bytes list) n)

-- the distance of a gate, said in the other form
abbrev pub restated_distance : Form → List ℕ → ℕ
restated_distance from gate = metres_of from gate / (layout_of (other_form from)).unit

-- the list with the two bytes of the distances of its first n gates said in the other form, and all else as it was
unfoldable pub restated : Form → List ℕ → ℕ → List ℕ
restated from list zero = list
restated from list (suc n) =
    restated_distance from list / 256 % 256
    ∷ restated_distance from list % 256
    ∷ (take 7 (drop 2 list) ++ restated from (drop gate_bytes list) n)

-- the gates outside, once moved
abbrev pub moved_gates : Form → List ℕ → List ℕ
moved_gates from s = restated from (entries_of (profile_in from) s) (count_of (profile_in from) s)

-- the bytes of their sub-packet
abbrev pub moved_size : Form → List ℕ → ℕ
moved_size from s = bytes_for (bits_with (layout_of (other_form from)).distance (count_of (profile_in from) s))

-- the refusal of a sub-packet of a form by itself: the reader's, given room for its gates
abbrev pub packet_refusal : Form → List ℕ → Refusal
packet_refusal form s = read_refusal (profile_in form) s (gate_bytes * count_of (profile_in form) s)

-- what is judged before the room: the header; the count, which the other form must hold; the rules of the read; and the distances
unfoldable pub judged_refusal : Form → List ℕ → Refusal
judged_refusal from s =
    or_else (head_refusal s gate_type gate_type)
    (or_else (refuse (ltb (layout_of (other_form from)).most (count_of (profile_in from) s)) too_many_to_move)
    (or_else (packet_refusal from s)
    (distances_refusal from (first_at (profile_in from)) (entries_of (profile_in from) s) (count_of (profile_in from) s))))

-- the rules of a move in their order, into room bytes
unfoldable pub move_refusal : Form → List ℕ → ℕ → Refusal
move_refusal from s room = or_else (judged_refusal from s) (room_refusal (moved_size from s) room)

-- the answer where nothing refuses: the gates, the bytes of the sub-packet that was read, and of the one that was written
abbrev pub moved_with : ℕ → ℕ → ℕ → GatesMoved
moved_with gates used written = record { answer = 0; place = nowhere; gates = gates; used = used; written = written }

-- and of a refusal: its number and its place, counted in the sub-packet that was read
abbrev pub not_moved : Refusal → GatesMoved
not_moved r = record { answer = r.number; place = r.place; gates = 0; used = 0; written = 0 }

-- the answer
unfoldable pub move_answer : Form → List ℕ → List ℕ → GatesMoved
move_answer from s o =
    unless_refused (move_refusal from s (length o)).number (moved_with (count_of (profile_in from) s) (length_of s) (moved_size from s))
    (not_moved (move_refusal from s (length o)))

-- the output afterwards: the sub-packet, and behind it what the output held; a refusal changes nothing
unfoldable pub move_into : Form → List ℕ → List ℕ → List ℕ
move_into from s o = unless_refused (move_refusal from s (length o)).number (written (profile_in (other_form from)) (moved_gates from s) o) o
