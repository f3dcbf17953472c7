-- `modes::flags::has_bad_flag` meets its contract.
use mathlib.Core.Path.{◌∙◌}
use lib.Dec.{ltb}
use Rattle.std.proofs.Common.{rules, tests}
use Rattle.std.proofs.lemmas.Iterator.{YieldsList-from_slice}
use Rattle.std.proofs.lemmas.Iterator.Search.{any_from_yields_List}
use Rattle.modes.proofs.Scanning.{any_above}
use Rattle.modes.proofs.flags.has_bad_flag.Goals as goal

pub returns : goal.returns
returns c =
    let flags = c.args.flags.now in
    any_from_yields_List (ltb 1) _ _ _ c.any.ensures.ran (YieldsList-from_slice flags cc) (λ x b q k. search (rules, tests)) ∙ any_above flags
