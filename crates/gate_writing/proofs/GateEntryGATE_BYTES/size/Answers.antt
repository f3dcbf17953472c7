-- `Gate::size` meets its contract: the count alone tells the bytes.
use mathlib.Core.Path.{sym, ap, ◌∙◌}
use native.Mathlib.Omega.{arith}
use Rattle.profiles.specs.Profiles.{bytes_for}
use Rattle.gates.specs.Gates.{distance_width}
use Rattle.gates.proofs.GateLaws.{bits_for_lem}
use Rattle.gate_writing.proofs.GateEntryGATE_BYTES.size.Goals as goal

pub returns : goal.returns
returns c = let a = c.args in
    c.bytes_for.ensures ∙ ap bytes_for (c.bits_of.ensures.0 ∙ sym (bits_for_lem distance_width (omega arith) a.list.now a.n))
