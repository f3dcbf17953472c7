-- `profiles::in_list::is_short` meets its contract: a list has as many entries as their bytes go into it.
use Rattle.std.proofs.Common.{zero, ◌+◌, ◌/◌, ◌≤◌, ◌<◌, length, arith}
use borrow.Author.Tests.{ltb-true, ltb-false}
use Rattle.std.proofs.Math.Nat.{lt-mul-div-succ, mul-div-le, mul-le-mul_left}
use Rattle.profiles.proofs.ProfileLaws.{some}
use Rattle.profiles.proofs.in_list.is_short.Goals as goal

pub returns-clause-yes : goal.returns-clause-yes
returns-clause-yes g c e =
    let b = g.row.BYTES in
    let len = length c.args.list.now in
    let pos : zero < b = omega (arith, g.met.E.Entry.bytes_are, some g.E.Entry.profile g.met.E.Entry.regular) in
    let less : len / b + 1 ≤ c.args.n = omega (arith, ltb-true (len / b) c.args.n e) in
    omega (arith, lt-mul-div-succ len pos, mul-le-mul_left b less)

pub returns-clause-no : goal.returns-clause-no
returns-clause-no g c e =
    let b = g.row.BYTES in
    let len = length c.args.list.now in
    omega (arith, mul-div-le len b, mul-le-mul_left b (ltb-false (len / b) c.args.n e))
