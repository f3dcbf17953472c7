-- A FILE of gate sub-packets, one behind the other, moved to the other form: until nothing is left of it, or a sub-packet is refused.
use Rattle.std.specs.Prelude.{ℕ, zero, suc, ◌+◌, List, [], ◌∷◌, ◌++◌, length, take, drop, replicate}
use Rattle.framing.specs.Refusals.{none, unless_refused}
use Rattle.framing.specs.Refusals.{Refusal}
use Rattle.gates.specs.declared.forms.Form.{Form}
use Rattle.gate_moving.specs.Moving.{move_answer, move_into}
use Rattle.gate_moving.specs.declared.GatesMoved.{GatesMoved}

-- what comes of a file: the bytes written, the sub-packets moved, the bytes of the file that they were, and the refusal of the next one, or none
pub record FileMoved : Type 0 where
  pub written : List ℕ
  pub packets : ℕ
  pub used : ℕ
  pub refusal : Refusal

abbrev pub longest : ℕ  -- the bytes of the longest sub-packet that a header can tell
longest = 127

-- an output that has room for every sub-packet
unfoldable pub blank : List ℕ
blank = replicate longest 0

-- the first sub-packet moved into it: what is answered, and the bytes made
abbrev pub first_moved : Form → List ℕ → GatesMoved
first_moved from s = move_answer from s blank

abbrev pub first_made : Form → List ℕ → List ℕ
first_made from s = take (first_moved from s).written (move_into from s blank)

-- the refusal that an answer tells
abbrev pub refusal_of : GatesMoved → Refusal
refusal_of moved = record { number = moved.answer; place = moved.place }

-- nothing is moved
abbrev pub nothing_moved : Refusal → FileMoved
nothing_moved refusal = record { written = []; packets = 0; used = 0; refusal = refusal }

-- so much was moved before
abbrev pub moved_before : List ℕ → ℕ → ℕ → FileMoved → FileMoved
moved_before written packets used f = record {
  written = written ++ f.written;
  packets = packets + f.packets;
  used = used + f.used;
  refusal = f.refusal;
}

-- the sub-packets of s, the first one first. The bound is on their number: as many as there are bytes is always enough
unfoldable pub file_in : ℕ → Form → List ℕ → FileMoved
file_in zero from s = nothing_moved none
file_in (suc most) from [] = nothing_moved none
file_in (suc most) from (b ∷ more) =
    unless_refused (first_moved from (b ∷ more)).answer
    (moved_before (first_made from (b ∷ more)) 1 (first_moved from (b ∷ more)).used (file_in most from (drop (first_moved from (b ∷ more)).used (b ∷ more))))
    (nothing_moved (refusal_of (first_moved from (b ∷ more))))

-- THE FILE MOVED
unfoldable pub file_moved : Form → List ℕ → FileMoved
file_moved from s = file_in (length s) from s
