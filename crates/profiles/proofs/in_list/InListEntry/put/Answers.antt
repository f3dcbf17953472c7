-- `profiles::in_list::InList::put` meets its contract: an entry is put by its own bytes.
use Rattle.std.proofs.Common.{◌≡◌, ◌+◌, ◌*◌, ◌≤◌, length, get_or, take, drop, sym, ◌∙◌, arith}
use Rattle.std.proofs.lemmas.List.{length-drop}
use Rattle.numbers.specs.Pieces.{pack}
use Rattle.profiles.specs.Profiles.{widths_for}
use Rattle.profiles.proofs.WritingLaws.{first_own, put_own}
use Rattle.profiles.proofs.in_list.InListEntry.put.Goals as goal

pub returns-clause-out_after : goal.returns-clause-out_after
returns-clause-out_after g c low whole =
    let e = g.E.Entry in
    let left = drop c.args.at c.args.list.now in
    let first : g.row.BYTES * 0 ≡ 0 = omega arith in
    let own = c.entry_at.ensures ∙ (λ j. take g.row.BYTES (drop (sym first j) left)) in
    let there : g.row.BYTES * (0 + 1) ≤ length left = rw length-drop (omega (arith, whole)) in
    let value = first_own e.profile g.met.E.Entry.regular left g.row.BYTES 0 g.met.E.Entry.bytes_are there _ own in
    c.put.ensures.out_after
    ∙ put_own e.profile g.met.E.Entry.regular left g.row.BYTES 0 g.met.E.Entry.bytes_are there _ own c.args.out.now c.args.p
    ∙ (λ j. pack c.args.out.now c.args.p (widths_for e.profile ((value ∙ (λ k. get_or (drop (first k) left) 0 0)) j)) (drop (first j) left))
