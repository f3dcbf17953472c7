-- What the rules say of one operation: refused, on the first ground that holds in the order of document 01's table; or accepted (0), with three
-- numbers for the answer, the ticket counter afterwards, and the effect on the view.
use Rattle.std.specs.Prelude.{Bool, cond, ℕ, eqb}
use Rattle.trains.specs.{Record.blank_train, Sought.row_count}
use Rattle.kinds.specs.declared.Ticket.{Ticket}
use Rattle.rules.specs.{Effect.row_only, declared.effect.Effect.Effect, declared.ruling.Answer.Answer}

-- what the rules say of an operation
pub record Ruling : Type 0 where
  pub answer : Answer
  pub counter : Ticket
  pub effect : Effect

-- where the test holds, its ground; else what follows in the chain of checks. 0 at its end is no ground
unfoldable pub when : Bool → ℕ → ℕ → ℕ
when test reason next = cond test reason next

-- where the test does not hold, its ground; else what follows
unfoldable pub unless : Bool → ℕ → ℕ → ℕ
unless test reason next = cond test next reason

-- an answer that accepts, with its three numbers
abbrev pub accepted_with : ℕ → ℕ → ℕ → Answer
accepted_with first second third = record { answer = 0; first = first; second = second; third = third }

-- an answer that refuses: zeros
abbrev pub refused_with : ℕ → Answer
refused_with reason = record { answer = reason; first = 0; second = 0; third = 0 }

-- an answer accepts exactly when its number is 0
abbrev pub accepts : Answer → Bool
accepts a = eqb a.answer 0

-- a ruling by its three parts
abbrev pub ruling : Answer → Ticket → Effect → Ruling
ruling answer counter effect = record { answer = answer; counter = counter; effect = effect }

-- an operation that is refused: the counter stays, and there is no effect
abbrev pub refused : Ticket → ℕ → Ruling
refused counter reason = ruling (refused_with reason) counter (row_only row_count blank_train)

-- refused on a ground; or, where there is none, what the operation does
unfoldable pub ruled : Ticket → ℕ → Ruling → Ruling
ruled counter reason done = cond (eqb reason 0) done (refused counter reason)
