-- THE CONTRACTS' DEFINITIONS: what a call answers, and the lent bytes after it, for all bytes. A refusal leaves them as they were.
use mathlib.Core.{Bool.cond, List.List}
use Rattle.std.specs.Prelude.{ℕ}
use Rattle.kinds.specs.{declared.Loco.Loco, declared.Ticket.Ticket}
use Rattle.rules.specs.{Rules.Op, Ruling.accepted_with, Ruling.accepts, declared.ruling.Answer.Answer, Ruling.Ruling}
use Rattle.store.specs.{Emptied.emptied, Layout.is_session}
use Rattle.ledger.specs.Settled.{settled_in}
use Rattle.judging.specs.Judged.{judged, end_judged}
use Rattle.settings.specs.Usual.{usual}
use Rattle.stepback.specs.Back.{of_session}

-- the answer to an operation
unfoldable pub answer_to : List ℕ → Op → Answer
answer_to bs o = of_session bs (judged usual bs o).answer

-- the bytes with a ruling taken in, where it accepts and they are a session
unfoldable pub taken : List ℕ → Ruling → List ℕ
taken bs r = cond (accepts r.answer) (settled_in bs r.counter r.effect) bs

-- the bytes after an operation
unfoldable pub bytes_after : List ℕ → Op → List ℕ
bytes_after bs o = taken bs (judged usual bs o)

-- the effective end of a named train
unfoldable pub end_answer_to : List ℕ → Loco → Ticket → Answer
end_answer_to bs loco ticket = of_session bs (end_judged bs loco ticket)

-- the answer to making an empty session
unfoldable pub start_answer : List ℕ → Answer
start_answer bs = of_session bs (accepted_with 0 0 0)

-- the bytes of an empty session
unfoldable pub start_after : List ℕ → List ℕ
start_after bs = cond (is_session bs) (emptied bs) bs
