-- `trace_files::telling::put_range` is safe and ends: a flag at fault stands among the flags.
use native.Mathlib.Omega.{arith}
use Rattle.trace_files.proofs.ReasonLaws.{flag_within}
use Rattle.trace_files.proofs.telling.put_range.Goals as goal

pub overflow_sub-condition : goal.overflow_sub-condition
overflow_sub-condition g c = omega (arith, c.bad_flag-at.ensures, (flag_within c.args.first.now).0)
