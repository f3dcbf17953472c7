-- ONE TURN of a listing: what it tells of the record that was run.
use mathlib.Core.{Bool.Bool, Bool.cond, List.List}
use Rattle.std.specs.Prelude.{ℕ}
use lib.{Dec.eqb, ListN.length}
use Rattle.lines.specs.Text.{record_line}
use Rattle.records.specs.declared.told.Ran.{Ran}
use Rattle.turns.specs.declared.Turn.{Turn}

-- the line of a record
abbrev pub text_of : Ran → List ℕ
text_of r = record_line r.number r.kind r.answer r.first r.second r.third

-- 1 for a record that was accepted, 0 for one that was refused
unfoldable pub one_if_accepted : Ran → ℕ
one_if_accepted r = cond (eqb r.answer 0) 1 0

-- nothing is listed behind a record that is not run: its kind is told as 0
abbrev pub is_last : Ran → Bool
is_last ran = eqb ran.kind 0

-- what a turn tells
unfoldable pub turn_of : Ran → Turn
turn_of ran = record { length = length (text_of ran); used = ran.used; accepted = one_if_accepted ran; last = is_last ran }
