-- `listing::whole::put_all` meets its contract.
use borrow.Author.Rules.{rules}
use Rattle.listing.proofs.WholeLaws.{put_all}
use Rattle.listing.proofs.whole.put_all.Goals as goal

pub returns : goal.returns
returns c =
    let a = c.args in
    let begun = c.begin-first in
    put_all a.recording.now a.output.now _ _ _ begun.result c.put_records.result c.empty_session-session.ensures
    (begun.ensures.value, begun.ensures.output_after) (search rules) c.put_records.ensures
