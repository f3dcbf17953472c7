-- Laws of one entry.
use mathlib.Core.Path.{◌≡◌, refl}
use mathlib.Core.Bool.{Bool, true, false, not, cond, ◌&&◌, ◌||◌, false≢true}
use mathlib.Core.List.{List}
use Prim.Native.Nat.{ℕ, ◌≤◌}
use native.Mathlib.Omega.{arith}
use borrow.Author.Tests.{leb-true, le-leb, eqb-true, eq-eqb}
use lib.Dec.{leb, ltb, eqb}
use lib.ListN.{length, take}
use Rattle.numbers.proofs.Logic.{both}
use Rattle.numbers.proofs.FrontLaws.{number-front, part-front, enough-front}
use Rattle.mark_bytes.specs.Mark.{is_marked}
use Rattle.mark_bytes.proofs.MarkLaws.{marked-front}
use Rattle.transitions.specs.Names.{IS, is_mode}
use Rattle.modes.specs.Flags.{flag_count}
use Rattle.modes.specs.Next.{refuses, out_of_range, next_step}
use Rattle.modes.proofs.Laws.{refused_exactly_on_its_grounds, accepted_otherwise}
use Rattle.traces.specs.Entry.{entry_bytes, mode_before_at, flags_at, mode_after_at, mode_before, flags_of, mode_after, is_entry, bad_entry, no_mode, is_out_of_range, follows, due_mode, refused_with, wrong_at, before, after, right, is_right, judged}
use Rattle.traces.specs.declared.entry.Judged.{Judged}

-- the mode step refuses exactly where its answer is not 0
module _ (m : ℕ) (fs : List ℕ) where
  pub refuses_by_answer : ((next_step m fs).answer ≡ 0 → ⊥) → refuses m fs ≡ true
  refuses_by_answer ne = of (refuses m fs) refl
    where
      of : (b : Bool) → refuses m fs ≡ b → refuses m fs ≡ true
      of true e = e
      of false e = absurd (ne (accepted_otherwise m fs e))

  pub accepts_by_answer : (next_step m fs).answer ≡ 0 → refuses m fs ≡ false
  accepts_by_answer z = of (refuses m fs) refl
    where
      of : (b : Bool) → refuses m fs ≡ b → refuses m fs ≡ false
      of true e = absurd (omega (arith, z, (refused_exactly_on_its_grounds m fs).1 e))
      of false e = e

-- of a whole entry the mark and every byte are there
module _ (e : List ℕ) where
  pub entry-marked : is_entry e ≡ true → is_marked e ≡ true
  unfolding is_entry
  entry-marked h = (both (is_marked e) (leb entry_bytes (length e)) h).0

  pub entry_whole : is_entry e ≡ true → entry_bytes ≤ length e
  unfolding is_entry
  entry_whole h = leb-true entry_bytes (length e) (both (is_marked e) (leb entry_bytes (length e)) h).1

  pub is_whole : is_marked e ≡ true → entry_bytes ≤ length e → is_entry e ≡ true
  unfolding is_entry
  is_whole marked whole = simp (marked, le-leb entry_bytes (length e) whole)

-- what a right entry is
pub record IsRightEntry (previous : ℕ) (e : List ℕ) : Type 0 where
  pub whole : is_entry e ≡ true
  pub in_range : is_out_of_range previous e ≡ false
  pub chained : follows previous e ≡ true
  pub due : mode_after e ≡ due_mode e

-- an entry by its four tests: only where all have passed is it right
abbrev pub by_tests : (whole out chained due : Bool) → ℕ → ℕ → Judged
by_tests whole out chained due previous d =
    cond (not whole) (refused_with bad_entry)
    (cond out (refused_with out_of_range) (cond (not chained) (wrong_at before previous) (cond (not due) (wrong_at after d) right)))

all-passed : (w o c d : Bool) (previous m : ℕ) → is_right (by_tests w o c d previous m) ≡ true → (w ≡ true) × (o ≡ false) × (c ≡ true) × (d ≡ true)
unfolding is_right
all-passed false o c d previous m h = absurd (false≢true h)
all-passed true true c d previous m h = absurd (false≢true h)
all-passed true false false d previous m h = absurd (false≢true h)
all-passed true false true false previous m h = absurd (false≢true h)
all-passed true false true true previous m h = (refl, refl, refl, refl)

module _ (previous : ℕ) (e : List ℕ) where
  pub right_means : is_right (judged previous e) ≡ true → IsRightEntry previous e
  unfolding judged
  right_means h =
      let passed = all-passed (is_entry e) (is_out_of_range previous e) (follows previous e) (eqb (mode_after e) (due_mode e)) previous (due_mode e) h in
      record { whole = passed.0; in_range = passed.1; chained = passed.2; due = eqb-true (mode_after e) (due_mode e) passed.3 }

  pub means_right : IsRightEntry previous e → judged previous e ≡ right
  unfolding judged
  means_right r = simp (r.whole, r.in_range, r.chained, eq-eqb (mode_after e) (due_mode e) r.due)

  -- of a right entry every byte is there
  pub right-whole : is_right (judged previous e) ≡ true → entry_bytes ≤ length e
  right-whole h = entry_whole e (right_means h).whole

-- ---- what follows an entry is not read

module _ (e : List ℕ) (m : ℕ) (room : entry_bytes ≤ m) where
  before-front : mode_before (take m e) ≡ mode_before e
  before-front = number-front 1 e mode_before_at m (omega arith)

  flags-front : flags_of (take m e) ≡ flags_of e
  unfolding flags_of
  flags-front = part-front e flags_at flag_count m (omega arith)

  pub after_front : mode_after (take m e) ≡ mode_after e
  after_front = number-front 1 e mode_after_at m (omega arith)

  entry-front : is_entry (take m e) ≡ is_entry e
  unfolding is_entry
  entry-front = λ i. marked-front e m (omega arith) i && enough-front entry_bytes m e room i

  range_front : (previous : ℕ) → is_out_of_range previous (take m e) ≡ is_out_of_range previous e
  unfolding is_out_of_range
  range_front previous = λ i. ltb IS previous || (refuses (before-front i) (flags-front i) || not (is_mode (after_front i)))

  follows-front : (previous : ℕ) → follows previous (take m e) ≡ follows previous e
  unfolding follows
  follows-front previous = λ i. eqb previous no_mode || eqb (before-front i) previous

  due-front : due_mode (take m e) ≡ due_mode e
  unfolding due_mode
  due-front = λ i. (next_step (before-front i) (flags-front i)).mode

  pub judged-front : (previous : ℕ) → judged previous (take m e) ≡ judged previous e
  unfolding judged
  judged-front previous =
      λ i. by_tests (entry-front i) (range_front previous i) (follows-front previous i) (eqb (after_front i) (due-front i)) previous (due-front i)
