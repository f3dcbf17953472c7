-- `profiles::writing::judge_list` meets its contract: a turn of the loop stops at an entry that is refused, or hands on.
use Rattle.std.proofs.Common.{◌≡◌, ℕ, ◌+◌, ◌-◌, ◌*◌, ◌≤◌, length, drop, refl, sym, ap, ◌∙◌, arith}
use Rattle.framing.specs.Refusals.{none}
use Rattle.framing.proofs.ToldLaws.{ground-some, passed}
use Rattle.profiles.specs.Writing.{list_refusal}
use Rattle.profiles.proofs.WritingLaws.{list-none, list-stop, list_go, entry_there}
use Rattle.profiles.proofs.writing.judge_list.Goals as goal

pub returns-in_err-judge : goal.returns-in_err-judge
returns-in_err-judge g c =
    let e = g.E.Entry in
    let l = c.loop-i in
    let a = c.args in
    let there : c.BYTES.result * l.i + e.BYTES ≤ length a.list.now = omega (arith, entry_there e.BYTES l.i a.n (length a.list.now) (omega arith) c.requires, ap (λ (b : ℕ). b * l.i) c.BYTES.ensures) in
    passed _ _ c.from_residual.ensures.1
    ∙ list-stop e.profile g.met.E.Entry.regular a.list.now (c.BYTES.result * l.i) (a.n - l.i) _ (omega arith) (c.in_err-judge.ensures.value there) (ground-some _)
    ∙ (λ j. list_refusal e.profile (drop (c.BYTES.ensures j * l.i) a.list.now) (a.n - l.i))
    ∙ l.invariant

pub loop-i-preserved : goal.loop-i-preserved
loop-i-preserved g c =
    let e = g.E.Entry in
    let l = c.loop-i in
    let a = c.args in
    let more : e.BYTES * (l.i + 1) ≡ e.BYTES * l.i + e.profile.pieces = omega (arith, g.met.E.Entry.bytes_are) in
    let behind : e.BYTES * (l.i + 1) ≡ c.BYTES.result * l.i + e.profile.pieces = more ∙ (λ j. sym c.BYTES.ensures j * l.i + e.profile.pieces) in
    let less : a.n - (l.i + 1) ≡ a.n - l.i - 1 = omega arith in
    let there : c.BYTES.result * l.i + e.BYTES ≤ length a.list.now = omega (arith, entry_there e.BYTES l.i a.n (length a.list.now) (omega arith) c.requires, ap (λ (b : ℕ). b * l.i) c.BYTES.ensures) in
    (λ j. list_refusal e.profile (drop (behind j) a.list.now) (less j))
    ∙ list_go e.profile g.met.E.Entry.regular a.list.now (c.BYTES.result * l.i) (a.n - l.i) none (omega arith) (c.in_ok-judge.ensures.value there) refl
    ∙ (λ j. list_refusal e.profile (drop (c.BYTES.ensures j * l.i) a.list.now) (a.n - l.i))
    ∙ l.invariant

pub returns : goal.returns
returns g c =
    let e = g.E.Entry in
    let l = c.loop-i in
    let a = c.args in
    let left : 0 ≡ a.n - l.i = omega arith in
    sym (list-none e.profile g.met.E.Entry.regular (drop (e.BYTES * l.i) a.list.now)) ∙ ap (list_refusal e.profile (drop (e.BYTES * l.i) a.list.now)) left ∙ l.invariant
