-- `turns::placing::put` meets its contract.
use mathlib.Core.Path.{sym, ◌∙◌}
use Prim.Native.Nat.{◌+◌, ◌<◌}
use native.Mathlib.Omega.{arith}
use lib.ListN.{length}
use borrow.Author.Tests.{leb-true, leb-false}
use Rattle.turns.proofs.PlacingLaws.{line-length, line-size, line-copied, put-none}
use Rattle.turns.proofs.placing.put.Goals as goal

pub returns-then-fits : goal.returns-then-fits
returns-then-fits c text h =
    let a = c.args in (
      line-size a.line text h,
      line-copied a.output.now a.at a.line _ text (leb-true _ _ (sym c.fits.ensures ∙ c.if-fits.true)) c.copy.ensures h,
    )

pub returns-else-fits : goal.returns-else-fits
returns-else-fits c text h =
    let a = c.args in
    let past : length a.output.now < a.at + a.line.len = leb-false _ _ (sym c.fits.ensures ∙ c.if-fits.false) in
    (line-size a.line text h, sym (put-none a.output.now a.at text (omega (arith, past, line-length a.line text h))))
