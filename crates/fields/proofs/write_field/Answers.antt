-- `fields::write_field` meets its contract: 32 bits are no more than a wide field may have.
use Prim.Native.Nat.{min}
use mathlib.Core.Path.{◌≡◌, ap₂, ◌∙◌}
use native.Mathlib.Omega.{arith}
use Rattle.numbers.specs.Fields.{put}
use Rattle.fields.proofs.write_field.Goals as goal

pub returns : goal.returns
returns c = let a = c.args in
    let e : min c.min.result 57 ≡ min a.width 32 = omega arith in
    c.write_wide.ensures ∙ ap₂ (put a.out.now a.at) e c.from.ensures
