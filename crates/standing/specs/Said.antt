-- What the answers of a session's operations say, in the words of demand 3: the call was refused, or an operation was taken, under its ticket, or
-- the session went back.
use Rattle.std.specs.Prelude.{cond, ℕ}
use Rattle.replay.specs.Demand3.{Call, op, back, Answer as Words, took, went_back, refused}
use Rattle.rules.specs.{Rules.Op, Rules.grants, Ruling.accepted_with, Ruling.refused_with, Ruling.accepts, declared.ruling.Answer.Answer}

-- the three numbers of an answer
pub record Reply : Type 0 where
  pub first : ℕ
  pub second : ℕ
  pub third : ℕ

-- the numbers of an answer
abbrev pub reply_of : Answer → Reply
reply_of a = record { first = a.first; second = a.second; third = a.third }

-- the ticket that an accepted operation got: a grant answers it first; no grant gets one
abbrev pub ticket_said : Op → Answer → ℕ
ticket_said o a = cond (grants o) a.first 0

-- what an answer says of a call; a step back answers the entries kept
unfoldable pub said : Call Op → Answer → Words Reply
said (op o) a = cond (accepts a) (took (ticket_said o a) (reply_of a)) (refused a.answer)
said (back k) a = cond (accepts a) (went_back a.first) (refused a.answer)

-- the answer that says it: nothing of an answer is lost
unfoldable pub answer_by : Words Reply → Answer
answer_by (took t r) = accepted_with r.first r.second r.third
answer_by (went_back n) = accepted_with n 0 0
answer_by (refused n) = refused_with n
