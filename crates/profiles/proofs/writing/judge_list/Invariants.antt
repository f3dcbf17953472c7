-- `profiles::writing::judge_list` meets its contract. The invariant: the refusal of the entries left is that of all.
use Rattle.std.proofs.Common.{◌≡◌, ◌-◌, ◌*◌, drop}
use Rattle.profiles.specs.Writing.{list_refusal}
use Rattle.profiles.proofs.writing.judge_list.Given as goal

abbrev pub invariant-loop-i : goal.invariant-loop-i
invariant-loop-i g l =
    let e = g.E.Entry in
    list_refusal e.profile (drop (e.BYTES * l.i) l.list) (l.n - l.i) ≡ list_refusal e.profile l.list l.n
