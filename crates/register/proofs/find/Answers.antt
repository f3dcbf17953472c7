-- `register::find` meets its contract.
use Rattle.std.specs.Prelude.{Some}
use mathlib.Core.Path.{sym, ◌∙◌}
use Rattle.trains.specs.declared.sought.Sought.TheVariants.{Pair}
use Rattle.register.specs.Register.{row_of}
use Rattle.register.proofs.RegisterLaws.{none_found, searched_sought, pair_none, pair_out, pair_same}
use Rattle.register.proofs.find.Goals as goal

pub returns-then-is_none : goal.returns-then-is_none
returns-then-is_none c =
    let a = c.args in
    sym (none_found _ _ (Pair a.loco a.ticket) (λ k l. pair_none a.loco a.ticket (row_of _ _ k) (sym c.is_none.ensures ∙ c.if-is_none.true)))

pub returns-then-not-in_range : goal.returns-then-not-in_range
returns-then-not-in_range c =
    let a = c.args in
    sym (none_found _ _ (Pair a.loco a.ticket) (λ k l. pair_out a.loco a.ticket (row_of _ _ k) (sym c.in_range.ensures ∙ c.if-not-in_range.true)))

pub returns : goal.returns
returns c =
    let a = c.args in
    c.search.ensures
    ∙ searched_sought _ _ a.loco (Some a.ticket) (Pair a.loco a.ticket)
    (pair_same a.loco a.ticket (sym c.is_none.ensures ∙ c.if-is_none.false) (sym c.in_range.ensures ∙ c.if-not-in_range.false))
