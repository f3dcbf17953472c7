-- `rows::row::put_optional` meets its contract.
use Rattle.std.specs.Prelude.{Option}
use mathlib.Core.Path.{sym, ap, ◌∙◌}
use Prim.Native.Nat.{ℕ, ◌*◌}
use Rattle.numbers.specs.Pieces.{pack}
use Rattle.rows.specs.Parts.{bits, flagged_sizes, optional_values}
use Rattle.rows.proofs.row.put_optional.Goals as goal

pub returns-in-None : goal.returns-in-None
returns-in-None c =
    let a = c.args in
    c.put_flagged.ensures
    ∙ sym (ap (λ (x : Option ℕ). pack a.out.now (8 * a.i) (bits flagged_sizes) (optional_values x)) c.in-None.is)

pub returns-in-Some : goal.returns-in-Some
returns-in-Some c =
    let a = c.args in
    c.put_flagged-in-Some.ensures
    ∙ sym (ap (λ (x : Option ℕ). pack a.out.now (8 * a.i) (bits flagged_sizes) (optional_values x)) c.in-Some.is)
