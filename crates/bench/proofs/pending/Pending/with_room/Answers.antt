-- `bench::pending::Pending::with_room` meets its contract.
use mathlib.Core.List.{◌++◌, append-nil}
use mathlib.Core.Path.{◌≡◌, ap, ◌∙◌}
use Prim.Native.Nat.{ℕ, ◌-◌}
use native.Mathlib.Omega.{arith}
use lib.ListN.{take}
use Rattle.bench.specs.Pending.{pending_bytes}
use Rattle.bench.proofs.pending.Pending.with_room.Goals as goal

pub returns-then-buffer-self-clause-value : goal.returns-then-buffer-self-clause-value
returns-then-buffer-self-clause-value g c =
    let a = c.args in
    let rest = c.written.ensures.rest in
    let sent = pending_bytes a.buffer.now a.self in record {
      sent = sent;
      rest = ap (λ (n : ℕ). sent ++ take n a.buffer.now) rest.0 ∙ append-nil sent;
      large = omega (arith, rest.0, c.requires);
      writable = rest.1;
    }

-- all that was pending is sent
pub returns-then-buffer-self-clause-bytes : goal.returns-then-buffer-self-clause-bytes
returns-then-buffer-self-clause-bytes g c = λ w.
    let a = c.args in
    let all : a.self.filled - c.written.result.filled ≡ a.self.filled = omega (arith, c.written.ensures.rest.0) in
    rw all (c.written.ensures.bytes w)
