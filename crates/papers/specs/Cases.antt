-- THE KINDS OF WORKED EXAMPLE, and the numbers that each comes to. All of them come from what the contracts cite: `read_answer` and `read_into` of
-- `read_gates`, `next_step` of `next_mode`, `start_after` of `start`, `answer_to` and `bytes_after` of the operations, `end_answer_to` of `end`.
use mathlib.Core.List.{List, [], ◌∷◌, ◌++◌, foldl}
use Rattle.std.specs.Prelude.{ℕ, ◌-◌, replicate, set}
use Rattle.profiles.specs.{Reading.read_answer, Reading.read_into, declared.EntriesRead.EntriesRead}
use Rattle.gates.specs.Gates.{gate_profile, gate_bytes}
use Rattle.modes.specs.{Flags.flag_count, Next.next_step, declared.Step.Step}
use Rattle.kinds.specs.{declared.Loco.Loco, declared.Ticket.Ticket}
use Rattle.rules.specs.{declared.ruling.Answer.Answer, Rules.Op, Rules.request}
use Rattle.session.specs.Answers.{start_after, answer_to, bytes_after, end_answer_to}

pub data Case : Type 0 where
  -- a gate read of these bytes, with room for one gate
  reading : List ℕ → Case
  -- a mode step from a mode, with these conditions set
  stepping : ℕ → List ℕ → Case
  -- a request of so many bytes, the first in an empty session
  requesting : Loco → ℕ → Case
  -- operations one after another in an empty session, one more, and then the end of a train's authority
  ending : List Op → Op → Loco → Ticket → Case

-- the flags with these conditions set, and no other
unfoldable pub flags_of : List ℕ → List ℕ
flags_of [] = replicate flag_count 0
flags_of (n ∷ ns) = set (flags_of ns) (n - 1) 1

-- room for one gate, as it was before a gate read
abbrev pub untouched : List ℕ
untouched = replicate gate_bytes 255

-- the numbers of a gate read's answer: the answer, the place, gates and bytes used
abbrev pub gate_numbers : EntriesRead → List ℕ
gate_numbers a = a.answer ∷ a.place ∷ a.entries ∷ a.bytes ∷ []

-- of a mode step's
abbrev pub step_numbers : Step → List ℕ
step_numbers s = s.answer ∷ s.mode ∷ s.priority ∷ s.tie ∷ []

-- of a session's
abbrev pub numbers : Answer → List ℕ
numbers a = a.answer ∷ a.first ∷ a.second ∷ a.third ∷ []

-- a gate read: the numbers of its answer, and the room afterwards
abbrev pub read : List ℕ → List ℕ
read bytes = gate_numbers (read_answer gate_profile bytes untouched) ++ read_into gate_profile bytes untouched

-- a mode step
abbrev pub step : ℕ → List ℕ → List ℕ
step mode conditions = step_numbers (next_step mode (flags_of conditions))

-- the bytes of a session after `start` and operations, where these bytes were lent
abbrev pub session_after : List ℕ → List Op → List ℕ
session_after lent os = foldl bytes_after (start_after lent) os

-- an operation's answer, and the end of a train's authority after it
abbrev pub answer_and_end : List ℕ → Op → Loco → Ticket → List ℕ
answer_and_end bs o loco ticket = numbers (answer_to bs o) ++ numbers (end_answer_to (bytes_after bs o) loco ticket)

-- what an example comes to, where these bytes are lent for a session
unfoldable pub computed : List ℕ → Case → List ℕ
computed lent (reading bytes) = read bytes
computed lent (stepping mode conditions) = step mode conditions
computed lent (requesting loco bytes) = numbers (answer_to (start_after lent) (request loco bytes))
computed lent (ending os o loco ticket) = answer_and_end (session_after lent os) o loco ticket
