-- The line of an answer is what its parts make when written in turn.
use mathlib.Core.Path.{◌≡◌, refl, sym, ap, ◌∙◌}
use mathlib.Core.Bool.{Bool, true, false, cond, ◌&&◌}
use mathlib.Core.List.{List, [], ◌∷◌}
use Prim.Native.Nat.{ℕ, zero, suc, ◌+◌, ◌-◌, ◌^◌, ◌≤◌, ◌<◌}
use native.Mathlib.Omega.{arith}
use native.Mathlib.Decide.{ℕ_discrete}
use borrow.Author.Tests.{eqb-true, eq-eqb, ne_eqb}
use lib.Dec.{eqb}
use lib.ListN.{length, get_or, length-append}
use Rattle.numbers.proofs.Logic.{both}
use Rattle.transitions.specs.Names.{IS, is_mode}
use Rattle.transitions.proofs.NameLaws.{mode-low, mode-high}
use Rattle.traces.specs.Entry.{before, mode_before, mode_after, is_right, judged}
use Rattle.traces.specs.Right.{IsInRange}
use Rattle.traces.specs.declared.entry.Judged.{Judged}
use Rattle.traces.proofs.ToldLaws.{is-told}
use Rattle.lines.specs.{Words.words, Decimal.decimal, Line.room, Line.line_of, Line.with_text, declared.line.Line.Line}
use Rattle.lines.proofs.DecimalLaws.{decimal-length}
use Rattle.lines.proofs.LineLaws.{text-append}
use Rattle.trace_files.specs.Answer.{mode_names, name_of, mode_text, yes_text, which_text, wrong_text, refused_text, found_in, answer_text, written}
use Rattle.trace_files.specs.Turns.{most_entries}
use Rattle.trace_files.specs.declared.files.File.{File}

-- ---- names

-- one test computed over all: each has two letters
all_two : List (List ℕ) → Bool
all_two [] = true
all_two (n ∷ ns) = eqb (length n) 2 && all_two ns

two_at : (ns : List (List ℕ)) → all_two ns ≡ true → (i : ℕ) → i < length ns → length (get_or ns i []) ≡ 2
unfolding all_two
two_at [] e i h = absurd (omega arith)
two_at (n ∷ ns) e zero h = eqb-true (length n) 2 (both (eqb (length n) 2) (all_two ns) e).0
two_at (n ∷ ns) e (suc i) h = two_at ns (both (eqb (length n) 2) (all_two ns) e).1 i (omega arith)

pub name_two : (i : ℕ) → i < 13 → length (get_or mode_names i []) ≡ 2
unfolding all_two mode_names words
name_two i h = two_at mode_names refl i h

pub name_is : (m : ℕ) → is_mode m ≡ true → get_or mode_names (m - 1) [] ≡ name_of m
unfolding name_of
name_is m h = rw h

-- ---- texts

pub yes-written : (n : ℕ) → with_text (with_text (with_text (line_of []) (words "yes ")) (decimal n)) (words "\n") ≡ written (yes_text n)
unfolding yes_text
yes-written n = simp text-append

pub refused-written : (n a : ℕ)
    → with_text (with_text (with_text (with_text (with_text (line_of []) (words "entry ")) (decimal n)) (words " is refused: answer ")) (decimal a)) (words ": ") ≡ written (refused_text n a)
unfolding refused_text
refused-written n a = simp text-append

pub mode-written : (l : Line) (m : ℕ) → with_text (with_text (with_text (with_text l (decimal m)) (words " (")) (name_of m)) (words ")") ≡ with_text l (mode_text m)
unfolding mode_text
mode-written l m = simp text-append

pub wrong-written : (n which due found : ℕ)
    → with_text (with_text (with_text (with_text (with_text (with_text (with_text (line_of []) (words "entry ")) (decimal n)) (which_text which)) (mode_text due)) (words ", not ")) (mode_text found)) (words "\n")
    ≡ written (wrong_text n which due found)
unfolding wrong_text
wrong-written n which due found = simp text-append

-- ---- and there is room for each

pub yes-fits : (n : ℕ) → n < 2 ^ 64 → length (yes_text n) ≤ room
unfolding yes_text words
yes-fits n h = simp length-append (omega (arith, decimal-length n 19 (omega arith)))

pub refused-fits : (n a : ℕ) → n < 2 ^ 64 → a < 2 ^ 32 → length (refused_text n a) ≤ room
unfolding refused_text words
refused-fits n a h l = simp length-append (omega (arith, decimal-length n 19 (omega arith), decimal-length a 9 (omega arith)))

name_fits : (m : ℕ) → length (name_of m) ≤ 2
unfolding name_of
name_fits m = of (is_mode m) refl
  where
    of : (b : Bool) → is_mode m ≡ b → length (cond b (get_or mode_names (m - 1) []) []) ≤ 2
    of true e = omega (arith, name_two (m - 1) (omega (arith, mode-low m e, mode-high m e)))
    of false e = omega arith

mode-fits : (m : ℕ) → m ≤ IS → length (mode_text m) ≤ 7
unfolding mode_text words
mode-fits m h = simp length-append (omega (arith, decimal-length m 1 (omega arith), name_fits m))

which_fits : (which : ℕ) → length (which_text which) ≤ 19
unfolding which_text words
which_fits which = of (eqb which before)
  where
    of : (b : Bool) → length (cond b (words ": mode before: due ") (words ": mode after: due ")) ≤ 19
    of true = omega arith
    of false = omega arith

pub wrong-fits : (n which due found : ℕ) → n < 2 ^ 64 → due ≤ IS → found ≤ IS → length (wrong_text n which due found) ≤ room
unfolding wrong_text words
wrong-fits n which due found h l k =
    simp length-append (omega (arith, decimal-length n 19 (omega arith), which_fits which, mode-fits due l, mode-fits found k))

found-fits : (which : ℕ) (first : List ℕ) → IsInRange first → found_in which first ≤ IS
unfolding found_in
found-fits which first r = of (eqb which before)
  where
    of : (b : Bool) → cond b (mode_before first) (mode_after first) ≤ IS
    of true = mode-high (mode_before first) r.start
    of false = mode-high (mode_after first) r.end

-- so there is for the answer: of a right trace, and of an entry that was judged so
module _ (file : File) (first : List ℕ) (few : file.entries ≤ most_entries) where
  pub right-fits : is_right file.judged ≡ true → length (answer_text file first) ≤ room
  unfolding answer_text
  right-fits e = rw e (yes-fits file.entries (omega (arith, few)))

  module _ (previous : ℕ) (same : file.judged ≡ judged previous first) where
    answer-same : file.judged.answer ≡ (judged previous first).answer
    answer-same = ap (λ (j : Judged). j.answer) same

    due-same : file.judged.due ≡ (judged previous first).due
    due-same = ap (λ (j : Judged). j.due) same

    pub told-fits : is_right file.judged ≡ false → length (answer_text file first) ≤ room
    unfolding answer_text
    told-fits e = rw e (of (ℕ_discrete file.judged.answer 0))
      where
        Fits : Type 0
        Fits = length (cond (eqb file.judged.answer 0)
            (wrong_text (file.entries + 1) file.judged.wrong file.judged.due (found_in file.judged.wrong first))
            (refused_text (file.entries + 1) file.judged.answer)) ≤ room

        of : Dec (file.judged.answer ≡ 0) → Fits
        of (yes z) =
            rw (eq-eqb file.judged.answer 0 z)
            (wrong-fits (file.entries + 1) file.judged.wrong file.judged.due (found_in file.judged.wrong first) (omega (arith, few))
            (omega (arith, due-same, (is-told previous first).due))
            (found-fits file.judged.wrong first ((is-told previous first).in_range (sym answer-same ∙ z))))
        of (no ne) =
            rw (ne_eqb file.judged.answer 0 ne)
            (refused-fits (file.entries + 1) file.judged.answer (omega (arith, few)) (omega (arith, answer-same, (is-told previous first).answer)))
