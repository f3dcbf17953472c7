-- `profiles::writing::put_entries` meets its contract: what a turn of the loop puts is no more left to put.
use Rattle.std.proofs.Common.{◌≡◌, ℕ, ◌+◌, ◌-◌, ◌*◌, ◌≤◌, List, length, get_or, drop, refl, sym, ap, ◌∙◌, arith}
use Rattle.numbers.specs.Pieces.{pack}
use Rattle.numbers.proofs.PieceLaws.{pack-zero}
use Rattle.profiles.specs.Profiles.{widths_of}
use Rattle.profiles.proofs.ProfileLaws.{of_none}
use Rattle.profiles.proofs.WritingLaws.{entries_step, entry_there}
use Rattle.profiles.proofs.writing.put_entries.Invariants.{putting}
use Rattle.profiles.proofs.writing.put_entries.Goals as goal

pub loop-i-init : goal.loop-i-init
loop-i-init g c =
    let e = g.E.Entry in
    let a = c.args in
    let none_passed : e.BYTES * 0 ≡ 0 = omega arith in
    let all_left : a.n - 0 ≡ a.n = omega arith in
    let start = c.FIRST_AT-p.ensures ∙ g.met.E.Entry.first_is in (
      omega (arith, c.FIRST_AT-p.ensures, g.met.E.Entry.starts_low),
      refl,
      (λ j. putting e.profile a.out.now (start j) (drop (none_passed j) a.list.now) (all_left j)),
    )

pub loop-i-preserved : goal.loop-i-preserved
loop-i-preserved g c =
    let e = g.E.Entry in
    let l = c.loop-i in
    let a = c.args in
    let made = c.put-p in
    let here : ℕ = c.BYTES.result * l.i in
    let more : e.BYTES * (l.i + 1) ≡ e.BYTES * l.i + e.profile.pieces = omega (arith, g.met.E.Entry.bytes_are) in
    let behind : e.BYTES * (l.i + 1) ≡ here + e.profile.pieces = more ∙ (λ j. sym c.BYTES.ensures j * l.i + e.profile.pieces) in
    let there : c.BYTES.result * l.i + e.BYTES ≤ length a.list.now = omega (arith, entry_there e.BYTES l.i a.n (length a.list.now) (omega arith) c.requires.there, ap (λ (b : ℕ). b * l.i) c.BYTES.ensures) in
    let low : l.p ≤ 2000 = omega (arith, l.invariant.0, c.requires.few, g.met.E.Entry.few_entries) in
    let less : a.n - (l.i + 1) ≡ a.n - l.i - 1 = omega arith in (
      omega (arith, (made.ensures.value low there).1),
      made.auto.out ∙ l.invariant.1,
      (λ j. pack (made.ensures.out_after low there j) ((made.ensures.value low there).0 j) (widths_of e.profile (drop (behind j) a.list.now) (less j)) (drop (behind j) a.list.now))
          ∙ entries_step e.profile g.met.E.Entry.regular l.out l.p a.list.now here (a.n - l.i) (get_or (drop here a.list.now) 0 0) refl (omega arith)
          ∙ (λ j. putting e.profile l.out l.p (drop (c.BYTES.ensures j * l.i) a.list.now) (a.n - l.i))
          ∙ l.invariant.2,
    )

pub returns : goal.returns
returns g c =
    let e = g.E.Entry in
    let l = c.loop-i in
    let a = c.args in
    let v : List ℕ = drop (e.BYTES * l.i) a.list.now in
    let left : 0 ≡ a.n - l.i = omega arith in
    sym (pack-zero l.out l.p v) ∙ ap (λ (ws : List ℕ). pack l.out l.p ws v) (sym (of_none e.profile v) ∙ ap (widths_of e.profile v) left) ∙ l.invariant.2
