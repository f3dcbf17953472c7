-- NO CALL ANSWERS 24: that number is the recording's alone.
use Rattle.std.specs.Prelude.{Option, None, Some}
use mathlib.Core.Bool.{Bool, true, false, cond}
use mathlib.Core.Path.{◌≡◌, sym, subst}
use mathlib.Core.List.{List, [], ◌∷◌}
use Prim.Native.Nat.{ℕ, ◌-◌}
use native.Mathlib.Decide.{ℕ_discrete}
use native.Mathlib.Omega.{arith}
use lib.Dec.{eqb, ltb}
use Rattle.modes.specs.Next.{next_step, choose, refuses, refused as step_refused, opens}
use Rattle.modes.specs.declared.Step.{Step}
use Rattle.transitions.specs.Table.{Transition}
use Rattle.trains.specs.Authority.{end_of}
use Rattle.kinds.specs.declared.Ticket.{Ticket}
use Rattle.trains.specs.declared.record.Train.{Train}
use Rattle.replay.specs.Demand3.{Call, op, back}
use Rattle.rules.specs.Deeds.{Deed, flags, position, authority, danger, clear, end_answer, changed_with, changed_if, step_taken, mode_stepped, done}
use Rattle.rules.specs.Named.{named_in, name_ground}
use Rattle.rules.specs.Raising.{sos_ground}
use Rattle.rules.specs.Refusals.{bad_record, wrong_length, too_far_back}
use Rattle.rules.specs.Registering.{ticket_for, request_ground}
use Rattle.rules.specs.Rules.{Op, request, release, on, sos, ground_of, rule}
use Rattle.rules.specs.Ruling.{accepted_with, refused_with, when, unless}
use Rattle.rules.specs.View.{View}
use Rattle.rules.specs.Named.{Named}
use Rattle.rules.specs.declared.ruling.Answer.{Answer}
use Rattle.rules.specs.Ruling.{Ruling}
use Rattle.rules.specs.declared.settings.Settings.{Settings}
use Rattle.order.proofs.RuleLaws.{accepted_exactly, refused-plain}
use Rattle.store.specs.Layout.{is_session}
use Rattle.store.specs.Stands.{view_of, counter_of, kept_of}
use Rattle.judging.specs.Judged.{judged}
use Rattle.session.specs.Answers.{answer_to}
use Rattle.stepback.specs.Back.{of_session, back_answer}
use Rattle.settings.specs.Usual.{usual}
use Rattle.standing.specs.Standing.{answered}

-- a number that is not 24
abbrev Other : ℕ → Type 0
Other n = n ≡ bad_record → ⊥

-- ---- the chains of grounds

other-when : (test : Bool) (ground next : ℕ) → Other ground → Other next → Other (when test ground next)
unfolding when
other-when true ground next p q = p
other-when false ground next p q = q

other-unless : (test : Bool) (ground next : ℕ) → Other ground → Other next → Other (unless test ground next)
unfolding unless
other-unless true ground next p q = q
other-unless false ground next p q = p

name_other : (n : Named) (next : ℕ) → Other next → Other (name_ground n next)
unfolding name_ground
name_other n next q = other-unless _ _ _ (λ e. omega arith) (other-unless _ _ _ (λ e. omega arith) q)

-- ---- deeds

other_if : (b : Bool) (x y : Answer) → Other x.answer → Other y.answer → Other (cond b x y).answer
other_if true x y p q = p
other_if false x y p q = q

end-other : (p : Option ℕ) → Other (end_answer p).answer
unfolding end_answer
end-other None = λ e. omega arith
end-other (Some end) = λ e. omega arith

changed-other : (test : Bool) (ground : ℕ) (before after : Train) → Other ground → Other (changed_if test ground before after).answer.answer
unfolding changed_if
changed-other true ground before after q = end-other (end_of after)
changed-other false ground before after q = q

choice_other : (m : ℕ) (xs : List Transition) → Other (choose m xs).answer
unfolding choose
choice_other m [] = λ e. omega arith
choice_other m (a ∷ xs) = λ e. omega arith

step_if : (b : Bool) (s t : Step) → Other s.answer → Other t.answer → Other (cond b s t).answer
step_if true s t p q = p
step_if false s t p q = q

next-other : (m : ℕ) (fs : List ℕ) → Other (next_step m fs).answer
unfolding next_step
next-other m fs = step_if (refuses m fs) step_refused (choose m (opens m fs)) (λ e. omega arith) (choice_other m (opens m fs))

step_other : (t : Train) (s : Step) → Other s.answer → Other (mode_stepped t s).answer.answer
unfolding mode_stepped
step_other t s q = go (eqb s.answer 0)
  where
    go : (b : Bool)
        → Other (cond b (changed_with (accepted_with s.mode s.priority s.tie) (step_taken t s)) (changed_with (refused_with s.answer) t)).answer.answer
    go true = λ e. omega arith
    go false = q

deed_other : (d : Deed) (t : Train) → Other (done d t).answer.answer
unfolding done
deed_other (flags fs) t = step_other t (next_step t.mode fs) (next-other t.mode fs)
deed_other (position front rear) t = changed-other _ _ _ _ (λ e. omega arith)
deed_other (authority end) t = changed-other _ _ _ _ (λ e. omega arith)
deed_other (danger location) t = changed-other _ _ _ _ (λ e. omega arith)
deed_other (clear other) t = changed-other _ _ _ _ (λ e. omega arith)

-- ---- the law

-- no ground of a rule is 24
ground-other : (s : Settings) (o : Op) (c : Ticket) (v : View) → Other (ground_of s o c v)
unfolding ground_of request_ground sos_ground
ground-other s (request loco bytes) c v =
    other-unless _ _ _ (λ e. omega arith)
    (other-unless _ _ _ (λ e. omega arith)
    (other-when _ _ _ (λ e. omega arith)
    (other-unless _ _ _ (λ e. omega arith)
    (other-unless _ _ _ (λ e. omega arith) (other-unless _ _ _ (λ e. omega arith) (λ e. omega arith))))))
ground-other s (release loco ticket) c v = name_other (named_in loco ticket v) 0 (λ e. omega arith)
ground-other s (on loco ticket deed) c v = name_other (named_in loco ticket v) _ (deed_other deed (named_in loco ticket v).train)
ground-other s (sos loco2 ticket2 loco1 ticket1 grid) c v =
    other-when _ _ _ (λ e. omega arith)
    (other-when _ _ _ (λ e. omega arith)
    (other-when _ _ _ (λ e. omega arith)
    (other-when _ _ _ (λ e. omega arith)
    (other-when _ _ _ (λ e. omega arith)
    (other-when _ _ _ (λ e. omega arith)
    (other-when _ _ _ (λ e. omega arith) (other-when _ _ _ (λ e. omega arith) (λ e. omega arith))))))))

-- so no ruling answers it
ruling-other : (s : Settings) (o : Op) (c t : Ticket) (v : View) → Other (rule s o c t v).answer.answer
ruling-other s o c t v = by (ℕ_discrete (ground_of s o c v) 0)
  where
    by : Dec (ground_of s o c v ≡ 0) → Other (rule s o c t v).answer.answer
    by (yes e) = rw ((accepted_exactly s o c t v).1 e) (λ e. omega arith)
    by (no n) = subst (λ (r : Ruling). Other r.answer.answer) (sym (refused-plain s o c t v n)) (ground-other s o c v)

-- nor any call
pub answered-other : (bs : List ℕ) (c : Call Op) → (answered bs c).answer ≡ bad_record → ⊥
unfolding answered answer_to back_answer of_session judged
answered-other bs (op o) =
    other_if (is_session bs) (judged usual bs o).answer (refused_with wrong_length)
    (ruling-other usual o (counter_of bs) (ticket_for (counter_of bs)) (view_of bs)) (λ e. omega arith)
answered-other bs (back k) =
    let far : Answer = refused_with too_far_back in
    let near : Answer = accepted_with (kept_of bs - k) 0 0 in
    other_if (is_session bs) (cond (ltb (kept_of bs) k) far near) (refused_with wrong_length)
    (other_if (ltb (kept_of bs) k) far near (λ e. omega arith) (λ e. omega arith))
    (λ e. omega arith)
