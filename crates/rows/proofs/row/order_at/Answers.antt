-- `rows::row::order_at` meets its contract.
use mathlib.Core.Path.{◌≡◌, ◌∙◌}
use Prim.Native.Nat.{◌+◌, ◌*◌}
use native.Mathlib.Omega.{arith}
use Rattle.numbers.specs.Pieces.{unpack}
use Rattle.rows.specs.Parts.{bits, flagged_sizes, optional_of}
use Rattle.rows.proofs.row.order_at.Goals as goal

pub returns : goal.returns
unfolding unpack
returns c =
    let a = c.args in
    let e : 8 * (a.i + 4) ≡ 8 * a.i + 32 = omega arith in
    λ k. record {
      other = record { 0 = c.word_at.ensures k };
      limit = (c.optional_at.ensures ∙ (λ j. optional_of (unpack a.s.now (e j) (bits flagged_sizes)))) k;
    }
