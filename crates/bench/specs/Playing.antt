-- A PLAY, turn by turn: what a turn reads, runs, puts and hands to the system, and what the turns of a play come to.
use mathlib.Core.{Bool.Bool, Bool.true, Bool.false, Bool.not, Bool.cond, Bool.◌&&◌, List.List, List.[], List.◌++◌, Path.◌≡◌}
use Rattle.std.specs.Prelude.{ℕ, ◌+◌, ◌≤◌, length}
use Rattle.lines.specs.{Line.room, Text.run_line, Text.end_line}
use Rattle.records.specs.{Form.longest, Form.most_records, declared.told.Ran.Ran}
use Rattle.turns.specs.{Placing.put_at, Turns.text_of, Turns.one_if_accepted, Turns.is_last}
use Rattle.recording.specs.Running.{ran_record, bytes_after_record}
use Rattle.listing.specs.Listing.{listing}
use Rattle.bench.specs.{declared.Play.Play, declared.pending.Pending.Pending}
use Rattle.holding.specs.{declared.Held.Held, Held.held_bytes, Held.nothing_held, Held.behind_by, Held.is_end, Held.IsReady}
use Rattle.bench.specs.Pending.{pending_bytes, nothing_pending, with_more, HasRoom}

-- the bytes that a play works on
pub record Bytes : Type 0 where
  pub session : List ℕ
  pub input : List ℕ
  pub output : List ℕ

abbrev pub bytes : List ℕ → List ℕ → List ℕ → Bytes
bytes session input output = record { session = session; input = input; output = output }

-- a play before its first record: the first line is pending
abbrev pub begun_play : Play
begun_play = record { held = nothing_held; pending = with_more (length run_line) nothing_pending; lines = 0; accepted = 0; over = false }

-- it goes on until it is over, or nothing can be read, or nothing written
unfoldable pub goes_on : Play → Bool
goes_on play = not play.over && not play.held.failed && play.pending.writable

-- a play that can have another record: it has a number, and no more were accepted than there are lines
pub record CanGoOn (play : Play) : Type 0 where
  pub few : play.lines ≤ most_records
  pub counted : play.accepted ≤ play.lines

-- no record is run: the recording is over, unless it could not be read
abbrev pub stopped_at : Play → Held → Pending → Play
stopped_at play held pending =
    record { held = held; pending = pending; lines = play.lines; accepted = play.accepted; over = not held.failed }

-- a record was run: its line is pending, it is counted, and what it used is not held any more
abbrev pub played_on : Play → Held → Pending → Ran → Play
played_on play held pending ran = record {
  held = behind_by ran.used held;
  pending = with_more (length (text_of ran)) pending;
  lines = play.lines + 1;
  accepted = play.accepted + one_if_accepted ran;
  over = is_last ran;
}

-- THE FIRST RECORD of what is held is run, unless there is none: the play after it, and the bytes of session and output
pub record RunsFirst (play : Play) (held : Held) (pending : Pending) (first session output session' output' : List ℕ) (r : Play) : Type 0 where
  pub short : is_end held first ≡ false → length (text_of (ran_record session first play.lines)) ≤ room
  pub result : r ≡ cond (is_end held first) (stopped_at play held pending) (played_on play held pending (ran_record session first play.lines))
  pub bytes : session' ≡ cond (is_end held first) session (bytes_after_record session first play.lines)
  pub text : output' ≡ cond (is_end held first) output (put_at output pending.filled (text_of (ran_record session first play.lines)))

-- ONE TURN: what is held is made ready, there is room for a line, and the first record of what is held is run
pub record IsTurn (play : Play) (before after : Bytes) (r : Play) : Type 0 where
  pub held : Held
  pub ready : IsReady longest before.input play.held after.input held
  pub pending : Pending
  pub roomy : HasRoom before.output play.pending pending
  pub runs : RunsFirst play held pending (held_bytes after.input held) before.session before.output after.session after.output r

-- THE TURNS of a play from where it begins, one after another: what was read in them, and what was handed to the system
pub data Turns (start : Bytes) : List ℕ → List ℕ → Bytes → Play → Type 0 where
  none : Turns start [] [] start begun_play
  next : {read sent : List ℕ} {before after : Bytes} {play r : Play} → Turns start read sent before play → goes_on play ≡ true
      → (t : IsTurn play before after r) → Turns start (read ++ t.ready.more) (sent ++ t.roomy.sent) after r

-- a play that made its turns until it stopped
pub record IsPlayed (start after : Bytes) (r : Play) : Type 0 where
  pub read : List ℕ
  pub sent : List ℕ
  pub turns : Turns start read sent after r
  pub stopped : goes_on r ≡ false

-- the last line is put, where the recording is over
pub record IsEnded (play : Play) (before after : List ℕ) (r : Pending) : Type 0 where
  pub sent : List ℕ
  pub text : sent ++ pending_bytes after r ≡ pending_bytes before play.pending ++ cond play.over (end_line play.lines play.accepted) []
  pub writable : r.writable ≡ true → play.pending.writable ≡ true

-- ALL THAT WAS READ IS LISTED: what was handed to the system, and what is pending, are the listing of what was read, where the recording is over
pub record IsListed (start : Bytes) (output : List ℕ) (r : Play) : Type 0 where
  pub play : Play
  pub after : Bytes
  pub played : IsPlayed start after play
  pub ended : IsEnded play after.output output r.pending
  pub same : r ≡ record { held = play.held; pending = r.pending; lines = play.lines; accepted = play.accepted; over = play.over }
  pub listed : r.over ≡ true → (played.sent ++ ended.sent) ++ pending_bytes output r.pending ≡ listing played.read
