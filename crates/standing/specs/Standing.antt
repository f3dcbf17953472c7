-- The session as demand 3 sees it: its rules are those of the papers, and what a call did to the lent bytes is what the contracts of session's
-- operations name (the step back is one of them).
use mathlib.Core.{Path.◌≡◌, Bool.cond, List.List}
use Rattle.std.specs.Prelude.{ℕ}
use Rattle.replay.specs.Rules.{Rules, Outcome, refuse, accept, just_below}
use Rattle.replay.specs.Demand3.{Call, op, back, Session}
use Rattle.kinds.specs.Kinds.{last_ticket}
use Rattle.rules.specs.{Effect.applied, Refusals.too_far_back, Registering.ticket_of, Registering.ticket_for, Rules.Op, Rules.grants, Rules.rule}
use Rattle.rules.specs.{Ruling.accepts, View.View, declared.ruling.Answer.Answer, Ruling.Ruling, declared.settings.Settings.Settings}
use Rattle.order.specs.Sound.{Sound}
use Rattle.store.specs.{Lent.Lent, Stands.view_of, Stands.counter_of}
use Rattle.entries.specs.Entry.{Entry, saved, undone}
use Rattle.ledger.specs.Log.{log_of}
use Rattle.session.specs.Answers.{answer_to, bytes_after}
use Rattle.stepback.specs.Back.{back_answer, back_after}
use Rattle.settings.specs.Usual.{usual}
use Rattle.standing.specs.Said.{Reply, reply_of, said}

-- what a ruling comes to on a view
unfoldable pub outcome : View → Ruling → Outcome View Reply
outcome v r = cond (accepts r.answer) (accept (reply_of r.answer) (applied v r.effect)) (refuse r.answer.answer)

-- THE RULES under some settings. A request takes the next ticket; the log keeps what the ruling's effect changes; and a view is sound whose live
-- trains have their slots, each for itself
abbrev pub rules : Settings → Rules
rules s =
    record {
      View = View;
      Op = Op;
      Reply = Reply;
      Entry = Entry;
      grants = grants;
      last_ticket = last_ticket;
      too_far_back = too_far_back;
      ticket_for = λ o c. (ticket_for (ticket_of c)).0;
      act = λ o c t v. outcome v (rule s o (ticket_of c) (ticket_of t) v);
      save = λ o t v. saved v (rule s o (ticket_of (just_below t)) (ticket_of t) v).effect;
      undo = undone;
      Sound = Sound;
    }

-- the answer to a call on lent bytes: that of the operation's contract
unfoldable pub answered : List ℕ → Call Op → Answer
answered bs (op o) = answer_to bs o
answered bs (back k) = back_answer bs k

-- the bytes after it: those of the operation's contract
unfoldable pub bytes_left : List ℕ → Call Op → List ℕ
bytes_left bs (op o) = bytes_after bs o
bytes_left bs (back k) = back_after bs k

-- THE SESSION in lent bytes: the view, the counter and the entries kept that they stand for, and what the contracts say of each call
abbrev pub session : Session (rules usual)
session =
    record {
      Bytes = List ℕ;
      state_in = λ bs. record { view = view_of bs; counter = (counter_of bs).0; log = log_of bs };
      Ready = Lent;
      Did = λ bs c a after. (a ≡ said c (answered bs c)) × (after ≡ bytes_left bs c);
    }
