-- `Turnout::put` meets its contract: the number that is put has the pieces as its digits.
use Prim.Native.Nat.{ℕ, ◌+◌, min}
use mathlib.Core.Path.{◌≡◌, ap, ◌∙◌}
use native.Mathlib.Omega.{arith}
use lib.ListN.{get_or}
use Rattle.numbers.specs.Fields.{put}
use Rattle.numbers.specs.Pieces.{total}
use Rattle.turnouts.specs.Turnouts.{behind_speed}
use Rattle.turnout_writing.proofs.TurnoutEntryTURNOUT_BYTES.put.Goals as goal

pub returns : goal.returns
unfolding total
returns c =
    let a = c.args in
    let behind = c.bits_behind-bits.ensures in
    let bits : 5 + c.bits_behind-bits.result ≡ 5 + total (behind_speed (get_or a.entry.now 0 0)) = ap (λ (n : ℕ). 5 + n) (behind.0 ∙ ap (λ (v : ℕ). total (behind_speed v)) c.from-speed.ensures) in
    let width : min (5 + c.bits_behind-bits.result) 57 ≡ 5 + total (behind_speed (get_or a.entry.now 0 0)) = omega (arith, bits, behind.1) in record {
      value = (bits, omega (arith, behind.1));
      out_after = c.write_wide.ensures
          ∙ ap (λ (n : ℕ). put a.out.now a.p n c.number_of.result) width
          ∙ c.number_of.ensures a.out.now a.p (λ k. omega (arith, c.slice_known-1.given k));
    }
