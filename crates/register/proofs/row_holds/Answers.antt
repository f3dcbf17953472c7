-- `register::row_holds` meets its contract.
use mathlib.Core.Path.{sym, ap, ◌∙◌}
use Prim.Native.Nat.{ℕ}
use lib.Dec.{eqb}
use borrow.Author.Tests.{not-true, not-false}
use Rattle.register.specs.Register.{row_holds, is_asked}
use Rattle.register.proofs.RegisterLaws.{loco_word, ticket_word}
use Rattle.register.proofs.row_holds.Goals as goal

pub returns-then-ne : goal.returns-then-ne
unfolding row_holds
returns-then-ne c =
    let a = c.args in
    simp (← loco_word a.register.now a.at a.i, ← c.word_in.ensures, not-true _ (sym c.ne.ensures ∙ c.if-ne.true))

pub returns-in-None : goal.returns-in-None
unfolding row_holds is_asked
returns-in-None c =
    let a = c.args in
    simp (← loco_word a.register.now a.at a.i, ← c.word_in.ensures, not-false _ (sym c.ne.ensures ∙ c.if-ne.false), c.in-None.is)

pub returns-in-Some : goal.returns-in-Some
unfolding row_holds is_asked
returns-in-Some c =
    let a = c.args in
    c.eq.ensures
    ∙ ap (λ (n : ℕ). eqb n c.in-Some.ticket.0) (c.word_in-in-Some.ensures ∙ ticket_word a.register.now a.at a.i)
    ∙ simp (← loco_word a.register.now a.at a.i, ← c.word_in.ensures, not-false _ (sym c.ne.ensures ∙ c.if-ne.false), c.in-Some.is)
