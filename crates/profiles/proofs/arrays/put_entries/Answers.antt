-- `profiles::arrays::put_entries` meets its contract: what a turn of the loop puts is no more left to put.
use Rattle.std.proofs.Common.{◌≡◌, ◌+◌, ◌-◌, ◌*◌, List, ℕ, length, get_or, drop, refl, sym, ap, ◌∙◌, arith}
use Rattle.numbers.specs.Pieces.{pack}
use Rattle.numbers.proofs.PieceLaws.{pack-zero}
use Rattle.profiles.specs.Profiles.{widths_of}
use Rattle.profiles.proofs.ProfileLaws.{of_none}
use Rattle.profiles.proofs.WritingLaws.{entry_there, first_own, put_own, entries_step}
use Rattle.profiles.proofs.arrays.put_entries.Invariants.{putting}
use Rattle.profiles.proofs.arrays.put_entries.Goals as goal

pub loop-i-init : goal.loop-i-init
loop-i-init g c =
    let e = g.E.Entry in
    let a = c.args in
    let none_passed : g.row.BYTES * 0 ≡ 0 = omega arith in
    let all_left : a.n - 0 ≡ a.n = omega arith in
    let start = c.FIRST_AT-p.ensures ∙ g.met.E.Entry.first_is in (
      omega (arith, c.FIRST_AT-p.ensures, g.met.E.Entry.starts_low),
      refl,
      (λ j. putting e.profile a.out.now (start j) (drop (none_passed j) a.list.now) (all_left j)),
    )

pub loop-i-preserved : goal.loop-i-preserved
loop-i-preserved g c =
    let e = g.E.Entry in
    let l = c.loop-i in
    let a = c.args in
    let made = c.put-p in
    let there = entry_there g.row.BYTES l.i a.n (length a.list.now) (omega arith) (omega arith) in
    let entry : List ℕ = c.entry_at.result.now in
    let put = made.ensures.out_after ∙ put_own e.profile g.met.E.Entry.regular a.list.now g.row.BYTES l.i g.met.E.Entry.bytes_are there entry c.entry_at.ensures l.out l.p in
    let first = first_own e.profile g.met.E.Entry.regular a.list.now g.row.BYTES l.i g.met.E.Entry.bytes_are there entry c.entry_at.ensures in
    let behind : g.row.BYTES * (l.i + 1) ≡ g.row.BYTES * l.i + e.profile.pieces = omega (arith, g.met.E.Entry.bytes_are) in
    let less : a.n - (l.i + 1) ≡ a.n - l.i - 1 = omega arith in (
      omega (arith, made.ensures.value.1),
      made.auto.out ∙ l.invariant.1,
      (λ j. pack (put j) (l.p + made.ensures.value.0 j) (widths_of e.profile (drop (behind j) a.list.now) (less j)) (drop (behind j) a.list.now))
          ∙ entries_step e.profile g.met.E.Entry.regular l.out l.p a.list.now (g.row.BYTES * l.i) (a.n - l.i) (get_or entry 0 0) first (omega arith)
          ∙ l.invariant.2,
    )

pub returns : goal.returns
returns g c =
    let e = g.E.Entry in
    let l = c.loop-i in
    let a = c.args in
    let v : List ℕ = drop (g.row.BYTES * l.i) a.list.now in
    let left : 0 ≡ a.n - l.i = omega arith in
    sym (pack-zero l.out l.p v) ∙ ap (λ (ws : List ℕ). pack l.out l.p ws v) (sym (of_none e.profile v) ∙ ap (widths_of e.profile v) left) ∙ l.invariant.2
