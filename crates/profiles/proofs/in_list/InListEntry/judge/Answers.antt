-- `profiles::in_list::InList::judge` meets its contract: an entry is judged by its own bytes.
use Rattle.std.proofs.Common.{◌≡◌, ◌+◌, ◌*◌, ◌≤◌, length, take, drop, sym, ◌∙◌, arith}
use Rattle.std.proofs.lemmas.List.{length-drop}
use Rattle.profiles.specs.Writing.{entry_refusal}
use Rattle.profiles.proofs.WritingLaws.{entry_own}
use Rattle.profiles.proofs.in_list.InListEntry.judge.Goals as goal

pub returns-clause-value : goal.returns-clause-value
returns-clause-value g c whole =
    let e = g.E.Entry in
    let left = drop c.args.at c.args.list.now in
    let first : g.row.BYTES * 0 ≡ 0 = omega arith in
    let own = c.entry_at.ensures ∙ (λ j. take g.row.BYTES (drop (sym first j) left)) in
    let there : g.row.BYTES * (0 + 1) ≤ length left = rw length-drop (omega (arith, whole)) in
    c.judge.ensures
    ∙ entry_own e.profile g.met.E.Entry.regular left g.row.BYTES 0 g.met.E.Entry.bytes_are there _ own
    ∙ (λ j. entry_refusal e.profile (drop (first j) left))
