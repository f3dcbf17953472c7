-- `register::find_loco` meets its contract.
use mathlib.Core.Path.{sym, ◌∙◌}
use Rattle.trains.specs.declared.sought.Sought.TheVariants.{Number}
use Rattle.std.specs.Prelude.{None}
use Rattle.register.specs.Register.{row_of}
use Rattle.register.proofs.RegisterLaws.{none_found, searched_sought, number-none, number_same}
use Rattle.register.proofs.find_loco.Goals as goal

pub returns-then-is_none : goal.returns-then-is_none
returns-then-is_none c =
    let a = c.args in
    sym (none_found _ _ (Number a.loco) (λ k l. number-none a.loco (row_of _ _ k) (sym c.is_none.ensures ∙ c.if-is_none.true)))

pub returns : goal.returns
returns c =
    let a = c.args in
    c.search.ensures
    ∙ searched_sought _ _ a.loco None (Number a.loco) (number_same a.loco (sym c.is_none.ensures ∙ c.if-is_none.false))
