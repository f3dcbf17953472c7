-- `gate_files::files::File::move_first` meets its contract: the law for each way out behind a move.
use mathlib.Core.Path.{sym, ◌∙◌}
use native.Mathlib.Omega.{arith}
use Rattle.gate_files.proofs.TurnLaws.{moves-refused, moves-one, one-short}
use Rattle.gate_files.proofs.files.File.move_first.Goals as goal

pub returns-then-moved-ne-ACCEPTED : goal.returns-then-moved-ne-ACCEPTED
returns-then-moved-ne-ACCEPTED c =
    let says = c.move_gates-moved.ensures in
    moves-refused c.args.from c.args.self c.args.held c.args.first.now (sym c.is_end.ensures ∙ c.if-is_end.false) c.requires.1 says.value says.out_after
    c.if-moved-ne-ACCEPTED.true c.stopped-then-moved-ne-ACCEPTED.ensures

pub overflow_add-result-2 : goal.overflow_add-result-2
overflow_add-result-2 c =
    let says = c.move_gates-moved.ensures in
    let short = one-short c.args.from c.args.self c.args.held c.args.first.now (sym c.is_end.ensures ∙ c.if-is_end.false) c.requires.1 says.value says.out_after
    c.if-moved-ne-ACCEPTED.false in
    omega (arith, short, c.requires.0.few, c.requires.0.short)

pub returns : goal.returns
returns c =
    let says = c.move_gates-moved.ensures in
    moves-one c.args.from c.args.self c.args.held c.args.first.now (sym c.is_end.ensures ∙ c.if-is_end.false) c.requires.1 says.value says.out_after
    c.if-moved-ne-ACCEPTED.false
    (simp c.behind.ensures)
