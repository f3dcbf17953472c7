-- The machine: what one call does to a session's view, counter and log, over any rules. A session in bytes shows that its calls do this (Kept.antt).
use Rattle.std.specs.Prelude.{ℕ}
use mathlib.Core.{Bool.cond, List.List, List.[], List.◌∷◌}
use lib.{Dec.leb, ListN.length, ListN.take, ListN.drop}
use Rattle.replay.specs.Rules.{Rules, Outcome, refuse, accept, ticket_due, verdict, counter_after}
use Rattle.replay.specs.Demand3.{Call, op, back, Answer, State, depth, op_answer, back_answer}

module _ (R : Rules) where
  open R use {View, Op, Reply, Entry, save, undo}

  -- an accepted operation gives the new view, and its entry goes on top of the log, of which the newest `depth` are kept; a refused one changes nothing
  unfoldable pub acted : Op → State View Entry → Outcome View Reply → State View Entry
  acted o s (refuse n) = s
  acted o s (accept r w) =
      record {
        view = w;
        counter = counter_after R o s.counter;
        log = take depth (save o (ticket_due R o s.counter) s.view ∷ s.log);
      }

  -- entries undone one after another, the newest first
  unfoldable pub undo_all : List Entry → View → View
  undo_all [] v = v
  undo_all (e ∷ es) v = undo_all es (undo e v)

  -- the newest k entries undone and taken off the log; the counter stays
  unfoldable pub undone : ℕ → State View Entry → State View Entry
  undone k s =
      record {
        view = undo_all (take k s.log) s.view;
        counter = s.counter;
        log = drop k s.log;
      }

  -- ONE CALL: the state after it, and the answer. A step back by more entries than are kept changes nothing
  unfoldable pub step : State View Entry → Call Op → State View Entry × Answer Reply
  step s (op o) = (acted o s (verdict R o s.counter s.view), op_answer (ticket_due R o s.counter) (verdict R o s.counter s.view))
  step s (back k) = (cond (leb k (length s.log)) (undone k s) s, back_answer R k (length s.log))
