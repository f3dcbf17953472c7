-- `gate_reading::judge_gate` meets its contract: its fields are digits of the gate.
use mathlib.Core.Path.{◌∙◌}
use Rattle.gate_reading.proofs.ReadingLaws.{digits-ruled}
use Rattle.gate_reading.proofs.judge_gate.Goals as goal

pub returns : goal.returns
returns c = c.judge_fields.ensures ∙ digits-ruled c.args.distance c.args.gate
