-- `packet_runs::run_case` is safe, and every case takes some bytes.
use mathlib.Core.Path.{sym}
use lib.Seq.{length-take-le}
use native.Mathlib.Omega.{arith}
use Rattle.packet_runs.proofs.run_case.Goals as goal

pub slice_bounds-run_kind-end-2 : goal.slice_bounds-run_kind-end-2
slice_bounds-run_kind-end-2 c = sym (length-take-le _ c.fresh_output-out.result (omega arith))
