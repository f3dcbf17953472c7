-- `profiles::arrays::judge_list` meets its contract: a turn of the loop stops at an entry that is refused, or hands on.
use Rattle.std.proofs.Common.{◌≡◌, ◌+◌, ◌-◌, ◌*◌, length, drop, refl, sym, ap, ◌∙◌, arith}
use Rattle.framing.specs.Refusals.{none}
use Rattle.framing.proofs.ToldLaws.{ground-some, passed}
use Rattle.profiles.specs.Writing.{list_refusal}
use Rattle.profiles.proofs.WritingLaws.{entry_there, entry_own, list-none, list-stop, list_go}
use Rattle.profiles.proofs.arrays.judge_list.Goals as goal

pub returns-in_err-judge : goal.returns-in_err-judge
returns-in_err-judge g c =
    let e = g.E.Entry in
    let l = c.loop-i in
    let a = c.args in
    let there = entry_there g.row.BYTES l.i a.n (length a.list.now) (omega arith) (omega arith) in
    let judged = c.in_err-judge.ensures ∙ entry_own e.profile g.met.E.Entry.regular a.list.now g.row.BYTES l.i g.met.E.Entry.bytes_are there _ c.entry_at.ensures in
    passed _ _ c.from_residual.ensures.1
    ∙ list-stop e.profile g.met.E.Entry.regular a.list.now (g.row.BYTES * l.i) (a.n - l.i) _ (omega arith) judged (ground-some _)
    ∙ l.invariant

pub loop-i-preserved : goal.loop-i-preserved
loop-i-preserved g c =
    let e = g.E.Entry in
    let l = c.loop-i in
    let a = c.args in
    let there = entry_there g.row.BYTES l.i a.n (length a.list.now) (omega arith) (omega arith) in
    let judged = c.in_ok-judge.ensures ∙ entry_own e.profile g.met.E.Entry.regular a.list.now g.row.BYTES l.i g.met.E.Entry.bytes_are there _ c.entry_at.ensures in
    let behind : g.row.BYTES * (l.i + 1) ≡ g.row.BYTES * l.i + e.profile.pieces = omega (arith, g.met.E.Entry.bytes_are) in
    let less : a.n - (l.i + 1) ≡ a.n - l.i - 1 = omega arith in
    (λ j. list_refusal e.profile (drop (behind j) a.list.now) (less j))
    ∙ list_go e.profile g.met.E.Entry.regular a.list.now (g.row.BYTES * l.i) (a.n - l.i) none (omega arith) judged refl
    ∙ l.invariant

pub returns : goal.returns
returns g c =
    let e = g.E.Entry in
    let l = c.loop-i in
    let a = c.args in
    let left : 0 ≡ a.n - l.i = omega arith in
    sym (list-none e.profile g.met.E.Entry.regular (drop (g.row.BYTES * l.i) a.list.now)) ∙ ap (list_refusal e.profile (drop (g.row.BYTES * l.i) a.list.now)) left ∙ l.invariant
