-- `profiles::arrays::put_entries` meets its contract. The invariant: what is left to put, put, is all the entries.
use Rattle.std.proofs.Common.{◌≡◌, ℕ, ◌+◌, ◌-◌, ◌*◌, ◌≤◌, List, length, drop}
use Rattle.numbers.specs.Pieces.{pack}
use Rattle.profiles.specs.Profiles.{Profile, first_at, widths_of}
use Rattle.profiles.proofs.arrays.put_entries.Given as goal

-- m entries of a list, put from bit p on
abbrev pub putting : Profile → List ℕ → ℕ → List ℕ → ℕ → List ℕ
putting f out p list m = pack out p (widths_of f list m) list

abbrev pub invariant-loop-i : goal.invariant-loop-i
invariant-loop-i g l =
    let e = g.E.Entry in
    (l.p ≤ 16 + 64 * l.i)
    × (length l.out ≡ length l.initial.out)
    × (putting e.profile l.out l.p (drop (g.row.BYTES * l.i) l.list) (l.n - l.i) ≡ putting e.profile l.initial.out (first_at e.profile) l.list l.n)
