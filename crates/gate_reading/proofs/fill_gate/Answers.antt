-- `gate_reading::fill_gate` meets its contract: its bytes are digits of the gate.
use native.Mathlib.Omega.{arith}
use lib.ListN.{length-set}
use Rattle.gate_reading.proofs.ReadingLaws.{stored}
use Rattle.gate_reading.proofs.fill_gate.Goals as goal

pub returns : goal.returns
returns c = stored c.args.out.now c.args.at c.args.gate

pub bounds-out-at-2 : goal.bounds-out-at-2
bounds-out-at-2 c = simp length-set (omega arith)

pub bounds-out-at-3 : goal.bounds-out-at-3
bounds-out-at-3 c = simp length-set (omega arith)

pub bounds-out-at-4 : goal.bounds-out-at-4
bounds-out-at-4 c = simp length-set (omega arith)

pub bounds-out-at-5 : goal.bounds-out-at-5
bounds-out-at-5 c = simp length-set (omega arith)

pub bounds-out-at-6 : goal.bounds-out-at-6
bounds-out-at-6 c = simp length-set (omega arith)

pub bounds-out-at-7 : goal.bounds-out-at-7
bounds-out-at-7 c = simp length-set (omega arith)

pub bounds-out-at-8 : goal.bounds-out-at-8
bounds-out-at-8 c = simp length-set (omega arith)

pub bounds-out-at-9 : goal.bounds-out-at-9
bounds-out-at-9 c = simp length-set (omega arith)

pub shape_of-out : goal.shape_of-out
shape_of-out c = simp length-set
