-- `bench::Play::run_first` meets its contract.
use mathlib.Core.Path.{sym, ◌∙◌}
use native.Mathlib.Omega.{arith}
use Rattle.bench.proofs.PlayLaws.{one-accepted, runs-one}
use Rattle.bench.proofs.Play.run_first.Goals as goal

pub overflow_add-result-2 : goal.overflow_add-result-2
overflow_add-result-2 c = omega (arith, c.requires.0.few, c.requires.0.counted, one-accepted _ _ c.next-turn.ensures.value.0)

pub returns : goal.returns
returns c =
    let a = c.args in
    let says = c.next-turn.ensures in
    runs-one a.self a.held a.pending a.first.now a.session.now a.output.now (sym c.is_end.ensures ∙ c.if-is_end.false)
    (says.value, (says.session_after, says.output_after)) c.behind.ensures c.with.ensures
