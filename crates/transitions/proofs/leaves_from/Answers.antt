-- `transitions::leaves_from` meets its contract: the mode is none, or the transitions of it stand between two starts.
use mathlib.Core.Path.{◌≡◌, sym, ◌∙◌}
use mathlib.Core.Bool.{◌&&◌}
use native.Mathlib.Omega.{arith}
use borrow.Author.Rules.{rules}
use lib.Dec.{leb, ltb}
use Rattle.transitions.proofs.NameLaws.{mode-high}
use Rattle.transitions.proofs.Held.{between, no_mode_none}
use Rattle.transitions.proofs.leaves_from.Goals as goal

pub overflow_add-mode : goal.overflow_add-mode
overflow_add-mode c = omega (arith, mode-high c.args.mode (sym c.is_mode.ensures ∙ c.if-is_mode.true))

pub returns-then-is_mode : goal.returns-then-is_mode
returns-then-is_mode c =
    let stands : c.contains.result ≡ (leb c.first.result c.args.t && ltb c.args.t c.first-then-is_mode.result) = search rules in
    stands ∙ rw (c.first.ensures, c.first-then-is_mode.ensures) (between c.args.mode c.args.t)

pub returns-else-is_mode : goal.returns-else-is_mode
returns-else-is_mode c = c.if-is_mode.false ∙ sym (no_mode_none c.args.mode c.args.t (sym c.is_mode.ensures ∙ c.if-is_mode.false))
