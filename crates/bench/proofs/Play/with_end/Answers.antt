-- `bench::Play::with_end` meets its contract.
use borrow.Author.Tests.{not-false}
use Rattle.bench.proofs.PlayLaws.{end-put}
use Rattle.bench.proofs.Play.with_end.Goals as goal

pub returns : goal.returns
returns g c =
    let a = c.args in
    let put = c.end.ensures in
    end-put a.self a.output.now _ _ _ _ (not-false _ c.if-not-self.false) c.with_room-pending.ensures.value (put.value, put.output_after) c.with.ensures
