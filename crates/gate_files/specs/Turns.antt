-- A FILE MOVED IN TURNS: what a turn reads, moves and hands to the system, and what the turns of a file come to.
use mathlib.Core.{Bool.Bool, Bool.true, Bool.false, Bool.not, Bool.cond, Bool.◌&&◌, List.List, List.[], List.◌++◌, Path.◌≡◌}
use Rattle.std.specs.Prelude.{ℕ, ◌+◌, ◌*◌, ◌≤◌, ◌<◌, Option, None, Some}
use lib.{Dec.ltb, ListN.take}
use Rattle.framing.specs.{Refusals.none, Refusals.unless_refused, Refusals.Refusal}
use Rattle.gates.specs.declared.forms.Form.{Form}
use Rattle.gate_moving.specs.declared.GatesMoved.{GatesMoved}
use Rattle.holding.specs.{declared.Held.Held, Held.held_bytes, Held.nothing_held, Held.behind_by, Held.is_end, Held.IsReady}
use Rattle.gate_files.specs.{declared.files.File.File, declared.files.Refused.Refused, Files.longest, Files.first_moved, Files.first_made, Files.file_moved}

-- why a sub-packet is refused, by the move's answer; and the refusal that this is, or none
abbrev pub refused_by : GatesMoved → Refused
refused_by moved = record { number = moved.answer; place = moved.place }

abbrev pub refusal_in : Option Refused → Refusal
refusal_in None = none
refusal_in (Some refused) = record { number = refused.number; place = refused.place }

-- a file of which nothing is read yet
abbrev pub begun_file : File
begun_file = record { held = nothing_held; packets = 0; used = 0; made = 0; refused = None; over = false; writable = true }

abbrev pub most_packets : ℕ  -- the most sub-packets of a file
most_packets = 4294967295

-- it goes on until it is over, or nothing can be read, or nothing written, or it has the most sub-packets
unfoldable pub goes_on : File → Bool
goes_on file = not file.over && not file.held.failed && file.writable && ltb file.packets most_packets

-- a file that can have another sub-packet; those moved were none longer than the longest
pub record CanGoOn (file : File) : Type 0 where
  pub few : file.packets < most_packets
  pub short : file.used ≤ longest * file.packets

-- no sub-packet is moved: the file is over, unless it could not be read
abbrev pub stopped_at : File → Held → Option Refused → File
stopped_at file held refused = record {
  held = held;
  packets = file.packets;
  used = file.used;
  made = 0;
  refused = refused;
  over = not held.failed;
  writable = file.writable;
}

-- a sub-packet was moved: it is counted, and what it used is not held any more
abbrev pub moved_on : File → Held → GatesMoved → File
moved_on file held moved = record {
  held = behind_by moved.used held;
  packets = file.packets + 1;
  used = file.used + moved.used;
  made = moved.written;
  refused = None;
  over = false;
  writable = file.writable;
}

-- THE FIRST SUB-PACKET of what is held is moved, unless there is none: the file after it, and the bytes made
pub record MovesFirst (from : Form) (file : File) (held : Held) (first out : List ℕ) (r : File) : Type 0 where
  pub result : r
      ≡ cond (is_end held first) (stopped_at file held None)
      (unless_refused (first_moved from first).answer (moved_on file held (first_moved from first)) (stopped_at file held (Some (refused_by (first_moved from first)))))
  pub text : take r.made out ≡ cond (is_end held first) [] (unless_refused (first_moved from first).answer (first_made from first) [])

-- ONE TURN, but for the writing: what is held is made ready, and the first sub-packet of it is moved
pub record IsTurn (from : Form) (file : File) (before after out : List ℕ) (r : File) : Type 0 where
  pub held : Held
  pub ready : IsReady longest before file.held after held
  pub moves : MovesFirst from file held (held_bytes after held) out r

-- what a turn made is handed to the system, which may or may not write it
abbrev pub with_written : Bool → File → File
with_written writable file = record {
  held = file.held;
  packets = file.packets;
  used = file.used;
  made = file.made;
  refused = file.refused;
  over = file.over;
  writable = writable;
}

-- THE TURNS of a file from where it begins, one after another: what was read in them, and what was handed to the system
pub data Turns (from : Form) (start : List ℕ) : List ℕ → List ℕ → List ℕ → File → Type 0 where
  begin : Turns from start [] [] start begun_file
  next : {read sent before after out : List ℕ} {file r : File} → Turns from start read sent before file → goes_on file ≡ true
      → (t : IsTurn from file before after out r) (writable : Bool)
      → Turns from start (read ++ t.ready.more) (sent ++ take r.made out) after (with_written writable r)

-- ALL THAT WAS READ IS MOVED: turns were made until the file stopped, and where it is over, what was handed to the system, the counts and the refusal
-- are those of the file that was read
pub record IsMoved (from : Form) (start after : List ℕ) (r : File) : Type 0 where
  pub read : List ℕ
  pub sent : List ℕ
  pub turns : Turns from start read sent after r
  pub stopped : goes_on r ≡ false
  pub moved : r.over ≡ true → file_moved from read ≡ record { written = sent; packets = r.packets; used = r.used; refusal = refusal_in r.refused }
