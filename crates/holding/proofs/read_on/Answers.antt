-- `holding::read_on` meets its contract: what each read gave is held behind what was read before.
use mathlib.Core.Path.{◌∙◌}
use Prim.Native.Nat.{◌-◌}
use native.Mathlib.Omega.{arith}
use lib.ListN.{length}
use Rattle.std.proofs.lemmas.Slice.{take-put_mid_below}
use Rattle.std.proofs.KnownBytes.{Consumes-trans}
use Rattle.holding.proofs.HeldLaws.{length-put_mid, given-behind, given_count}
use Rattle.holding.proofs.read_on.Goals as goal

pub loop-end-preserved : goal.loop-end-preserved
loop-end-preserved g c =
    let i = c.loop-end.invariant in
    let e = c.loop-end.end in
    let xs = c.loop-end.buffer in
    let ys = c.read.new.buf in
    let n = c.in-Ok.count in
    let k = length xs - e in
    let got = given_count c.read.result n e _ _ ys c.in-Ok.ensures.count c.in-Ok.ensures.failure c.read.ensures.bound c.read.ensures.bytes in
    let size = length-put_mid e xs ys i.1 c.read.auto.buf in (
      omega (arith, i.0),
      omega (arith, i.1, got.0, size.0, size.1),
      size.1 ∙ i.2,
      take-put_mid_below e k xs ys c.args.kept i.0 i.1 ∙ i.3,
      rw (given-behind c.args.kept e n k xs ys i.0 i.1 got.0) (Consumes-trans _ _ _ _ _ i.4 got.1),
    )
