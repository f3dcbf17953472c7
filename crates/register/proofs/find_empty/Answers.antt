-- `register::find_empty` meets its contract.
use mathlib.Core.Path.{◌∙◌}
use Rattle.trains.specs.declared.sought.Sought.TheVariants.{Empty}
use Rattle.kinds.specs.Kinds.{no_loco}
use Rattle.std.specs.Prelude.{None}
use Rattle.register.proofs.RegisterLaws.{searched_sought, empty-same}
use Rattle.register.proofs.find_empty.Goals as goal

pub returns : goal.returns
returns c = c.search.ensures ∙ searched_sought _ _ no_loco None Empty empty-same
