-- `turnout_writing::bits_for` meets its contract. The invariant: with the bits of the turnouts left they are those of all.
use Prim.Native.Nat.{ℕ, ◌+◌, ◌-◌, ◌*◌}
use mathlib.Core.Path.{◌≡◌, ap, ◌∙◌}
use native.Mathlib.Omega.{arith}
use lib.ListN.{drop}
use Rattle.numbers.specs.Pieces.{total}
use Rattle.numbers.proofs.FieldLaws.{Bytes}
use Rattle.turnouts.specs.Turnouts.{turnout_bytes, behind_speed}
use Rattle.turnout_writing.proofs.WritingLaws.{speed_eq, bits-more, bits_none}
use Rattle.turnout_writing.proofs.bits_for.Invariants.{left}
use Rattle.turnout_writing.proofs.bits_for.Goals as goal

pub loop-i-preserved : goal.loop-i-preserved
loop-i-preserved c = let l = c.loop-i in
    let a = c.args in
    let at : ℕ = turnout_bytes * l.i in
    let known : Bytes a.list.now = λ k. omega (arith, c.shared_slice_known-1.given k) in
    let less : a.n - (l.i + 1) ≡ a.n - l.i - 1 = omega arith in
    let behind : turnout_bytes * (l.i + 1) ≡ at + turnout_bytes = omega arith in
    let e = c.bits_behind.ensures.0 ∙ ap (λ (v : ℕ). total (behind_speed v)) (c.byte_at-speed.ensures ∙ speed_eq a.list.now at known) in
    let rest : left (drop (turnout_bytes * (l.i + 1)) a.list.now) (a.n - (l.i + 1)) ≡ left (drop (at + turnout_bytes) a.list.now) (a.n - l.i - 1) = λ j. left (drop (behind j) a.list.now) (less j) in (
      omega (arith, c.bits_behind.ensures.1),
      omega (arith, e, l.invariant.1, bits-more a.list.now at (a.n - l.i) (omega arith), rest),
    )

pub returns : goal.returns
returns c = let l = c.loop-i in
    let a = c.args in
    let v = drop (turnout_bytes * l.i) a.list.now in
    let e : a.n - l.i ≡ 0 = omega arith in
    (omega (arith, l.invariant.1, ap (left v) e, bits_none v), omega (arith, l.invariant.0))
