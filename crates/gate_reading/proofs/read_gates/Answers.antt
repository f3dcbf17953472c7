-- `gate_reading::read_gates` meets its contract: the law for each way out.
use Prim.Native.Nat.{ℕ}
use mathlib.Core.Path.{refl, ◌∙◌}
use native.Mathlib.Omega.{arith}
use Rattle.framing.specs.Refusals.{none}
use Rattle.framing.specs.Told.{ground_of}
use Rattle.framing.proofs.RefusalLaws.{unless-none, unless-some}
use Rattle.framing.proofs.ToldLaws.{ground-some}
use Rattle.profiles.proofs.ReadingLaws.{read-refused, read_stored}
use Rattle.gates.specs.Gates.{distance_width, gate_profile}
use Rattle.gates.proofs.GateLaws.{regular}
use Rattle.gate_reading.proofs.read_gates.Goals as goal

pub returns-in-Ok : goal.returns-in-Ok
returns-in-Ok c = let a = c.args in
    let read = c.in-Ok.ensures in
    let both = read_stored gate_profile a.s.now a.out.now none read.value (regular distance_width (omega arith)) refl c.in-Ok.entries c.length_of.result _ read.count c.length_of.ensures.0 (read.out_after ∙ unless-none _ _ _ refl) in
    record {
      value = both.0;
      out_after = both.1;
    }

pub returns-in-Err : goal.returns-in-Err
returns-in-Err c = let a = c.args in
    let told = c.in-Err.ensures in
    let r = read-refused gate_profile a.s.now a.out.now (ground_of c.in-Err.refusal) told.value (ground-some c.in-Err.refusal) in
    record {
      value = c.from.ensures ∙ r.0;
      out_after = told.out_after ∙ unless-some _ _ _ (ground-some c.in-Err.refusal) ∙ r.1;
    }
