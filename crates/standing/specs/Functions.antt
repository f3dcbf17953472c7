-- THE FUNCTIONS OF THE SESSION in the words of demand 3: the call that each makes, by the arguments behind the lent bytes, and the bytes that `start`
-- leaves. That the functions' own contracts say the same is proofs/Links.antt.
use Rattle.std.specs.Prelude.{List, ℕ}
use Rattle.kinds.specs.{declared.Loco.Loco, declared.Ticket.Ticket}
use Rattle.replay.specs.Demand3.{Call, op, back}
use Rattle.rules.specs.{Deeds.meant, Rules.Op, Rules.request, Rules.release, Rules.on, Rules.sos, declared.deeds.Deed.Deed}
use Rattle.rules.specs.declared.ruling.Answer.{Answer}
use Rattle.session.specs.Answers.{start_answer, start_after}
use Rattle.standing.specs.Standing.{answered, bytes_left}

-- what a call did: its answer, and the lent bytes after it
pub record Came : Type 0 where
  pub answer : Answer
  pub after : List ℕ

-- what a call on lent bytes did: what the theorem goes by
abbrev pub came_of : Call Op → List ℕ → Came
came_of c bs = record { answer = answered bs c; after = bytes_left bs c }

abbrev pub request_came : Loco → ℕ → List ℕ → Came
request_came loco bytes = came_of (op (request loco bytes))

abbrev pub release_came : Loco → Ticket → List ℕ → Came
release_came loco ticket = came_of (op (release loco ticket))

-- the flags are lent beside the deed
abbrev pub on_came : Loco → Ticket → Deed → List ℕ → List ℕ → Came
on_came loco ticket deed flags = came_of (op (on loco ticket (meant deed flags)))

-- L2 is named first
abbrev pub sos_came : Loco → Ticket → Loco → Ticket → ℕ → List ℕ → Came
sos_came loco2 ticket2 loco1 ticket1 grid = came_of (op (sos loco2 ticket2 loco1 ticket1 grid))

abbrev pub step_back_came : ℕ → List ℕ → Came
step_back_came k = came_of (back k)

-- the bytes after it are the empty session that `demand3-from-start` begins with
abbrev pub start_came : List ℕ → Came
start_came bs = record { answer = start_answer bs; after = start_after bs }
