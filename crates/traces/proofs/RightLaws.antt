-- A TRACE IS A YES EXACTLY WHERE IT IS RIGHT: where all its entries are whole, in range, chained and due.
use mathlib.Core.Path.{◌≡◌, refl, sym, ap, subst, ◌∙◌}
use mathlib.Core.Bool.{Bool, true, false, not, ◌||◌}
use mathlib.Core.Logic.{◌⊎◌, inl, inr, ◌↔◌}
use mathlib.Core.List.{List}
use Prim.Native.Nat.{ℕ, zero, suc, ◌+◌, ◌*◌, ◌≤◌, ◌<◌}
use native.Mathlib.Omega.{arith}
use borrow.Author.Tests.{not-false, ltb-false, eqb-true, le-ltb, eq-eqb, ne_eqb}
use lib.Dec.{eqb, ltb}
use lib.ListN.{length, take, drop, length-take, length-drop}
use lib.Seq.{drop-drop}
use Rattle.numbers.proofs.Logic.{neither, lt_or_le}
use Rattle.mark_bytes.specs.Mark.{is_marked}
use Rattle.transitions.specs.Names.{IS, is_mode}
use Rattle.transitions.proofs.NameLaws.{mode-low, mode-high}
use Rattle.modes.specs.Flags.{flag_count, wrong_count, flag_above_one}
use Rattle.modes.specs.Next.{mode_out_of_range, refuses}
use Rattle.traces.specs.declared.walk.Checked.{Checked}
use Rattle.traces.specs.Entry.{entry_bytes, flags_at, no_mode, mode_before, flags_of, mode_after, is_out_of_range, follows, due_mode, is_right, judged}
use Rattle.traces.specs.Trace.{first_entry, entries_of, yes, walked, checked}
use Rattle.traces.specs.Right.{entry_at, IsInRange, IsRightTrace}
use Rattle.traces.proofs.EntryLaws.{entry-marked, entry_whole, is_whole, IsRightEntry, right_means, means_right}
use Rattle.traces.proofs.TraceLaws.{walked_end, walked-told, walked_on}

-- ---- one entry

-- what is not out of range, by the three tests
pub record Inside (previous : ℕ) (e : List ℕ) : Type 0 where
  pub previously : previous ≤ IS
  pub stepped : refuses (mode_before e) (flags_of e) ≡ false
  pub ended : is_mode (mode_after e) ≡ true

pub inside : (previous : ℕ) (e : List ℕ) → is_out_of_range previous e ≡ false → Inside previous e
unfolding is_out_of_range
inside previous e h =
    let refused : Bool = refuses (mode_before e) (flags_of e) in
    let ends : Bool = not (is_mode (mode_after e)) in
    let first = neither (ltb IS previous) (refused || ends) h in
    let rest = neither refused ends first.1 in
    record { previously = ltb-false IS previous first.0; stepped = rest.0; ended = not-false (is_mode (mode_after e)) rest.1 }

pub in_range_lem : (previous : ℕ) (e : List ℕ) → is_out_of_range previous e ≡ false → IsInRange e
unfolding refuses
in_range_lem previous e h =
    let within = inside previous e h in
    let steps = neither (mode_out_of_range (mode_before e)) (wrong_count (flags_of e) || flag_above_one (flags_of e)) within.stepped in
    record {
      start = not-false (is_mode (mode_before e)) steps.0;
      flags = (neither (wrong_count (flags_of e)) (flag_above_one (flags_of e)) steps.1).1;
      end = within.ended;
    }

flags-there : (e : List ℕ) → entry_bytes ≤ length e → length (flags_of e) ≡ flag_count
unfolding flags_of
flags-there e h = omega (arith, length-take flag_count (drop flags_at e), length-drop flags_at e)

not_out : (previous : ℕ) (e : List ℕ) → previous ≤ IS → entry_bytes ≤ length e → IsInRange e → is_out_of_range previous e ≡ false
unfolding is_out_of_range refuses
not_out previous e low whole r =
    simp (le-ltb IS previous low, r.start, eq-eqb (length (flags_of e)) flag_count (flags-there e whole), r.flags, r.end)

-- where something came before, the mode before is its mode after
follows_means : (previous : ℕ) (e : List ℕ) → (previous ≡ no_mode → ⊥) → follows previous e ≡ true → mode_before e ≡ previous
unfolding follows
follows_means previous e some h =
    eqb-true (mode_before e) previous (sym (ap (λ (b : Bool). b || eqb (mode_before e) previous) (ne_eqb previous no_mode some)) ∙ h)

second : (a b : Bool) → b ≡ true → (a || b) ≡ true
second true b h = refl
second false b h = h

means_follows : (previous : ℕ) (e : List ℕ) → mode_before e ≡ previous → follows previous e ≡ true
unfolding follows
means_follows previous e h = second (eqb previous no_mode) (eqb (mode_before e) previous) (eq-eqb (mode_before e) previous h)

first-follows : (e : List ℕ) → follows no_mode e ≡ true
unfolding follows
first-follows e = refl

-- ---- a trace, where `previous` is the mode after of what came before it

pub record RightBehind (previous : ℕ) (s : List ℕ) : Type 0 where
  pub trace : IsRightTrace s
  pub first : 0 < trace.count → follows previous (entry_at s 0) ≡ true

entry-behind : (s : List ℕ) (i next : ℕ) → next ≡ i + 1 → entry_at (drop entry_bytes s) i ≡ entry_at s next
entry-behind s i next e =
    let on : entry_bytes + entry_bytes * i ≡ entry_bytes * next = omega arith in
    ap (λ (l : List ℕ). take entry_bytes l) (drop-drop (entry_bytes * i) entry_bytes s ∙ ap (λ (k : ℕ). drop k s) on)

none_right : (previous : ℕ) (s : List ℕ) → length s ≡ 0 → RightBehind previous s
none_right previous s z = record {
  trace = record {
    count = 0;
    whole = z;
    marked = λ i l. absurd (omega arith);
    in_range = λ i l. absurd (omega arith);
    chained = λ i l. absurd (omega arith);
    due = λ i l. absurd (omega arith);
  };
  first = λ l. absurd (omega arith);
}

-- ---- a yes is right

-- a right entry before a right trace
module _ (previous : ℕ) (s : List ℕ) (r : IsRightEntry previous (first_entry s)) (behind : RightBehind (mode_after (first_entry s)) (drop entry_bytes s)) where
  ranged : IsInRange (first_entry s)
  ranged = in_range_lem previous (first_entry s) r.in_range

  of-behind : (P : List ℕ → Type 0) → P (first_entry s) → ((i : ℕ) → i < behind.trace.count → P (entry_at (drop entry_bytes s) i))
      → (i : ℕ) → i < behind.trace.count + 1 → P (entry_at s i)
  of-behind P first rest zero l = first
  of-behind P first rest (suc i) l = subst P (entry-behind s i (suc i) (omega arith)) (rest i (omega arith))

  first-chained : 0 < behind.trace.count → mode_before (entry_at (drop entry_bytes s) 0) ≡ mode_after (first_entry s)
  first-chained some =
      follows_means (mode_after (first_entry s)) (entry_at (drop entry_bytes s) 0) (λ z. omega (arith, z, mode-low (mode_after (first_entry s)) ranged.end))
      (behind.first some)

  all-chained : (i : ℕ) → i + 1 < behind.trace.count + 1 → mode_before (entry_at s (i + 1)) ≡ mode_after (entry_at s i)
  all-chained zero l = ap (λ (e : List ℕ). mode_before e) (sym (entry-behind s 0 1 refl)) ∙ first-chained (omega arith)
  all-chained (suc i) l =
      ap (λ (e : List ℕ). mode_before e) (sym (entry-behind s (i + 1) (suc i + 1) (omega arith)))
      ∙ behind.trace.chained i (omega arith)
      ∙ ap (λ (e : List ℕ). mode_after e) (entry-behind s i (suc i) (omega arith))

  one_more : RightBehind previous s
  one_more = record {
    trace = record {
      count = behind.trace.count + 1;
      whole = omega (arith, behind.trace.whole, length-drop entry_bytes s, length-take entry_bytes s, entry_whole (first_entry s) r.whole);
      marked = of-behind (λ e. is_marked e ≡ true) (entry-marked (first_entry s) r.whole) behind.trace.marked;
      in_range = of-behind IsInRange ranged behind.trace.in_range;
      chained = all-chained;
      due = of-behind (λ e. mode_after e ≡ due_mode e) r.due behind.trace.due;
    };
    first = λ l. r.chained;
  }

yes-right : (most n previous : ℕ) (s : List ℕ) → 0 < n → length s ≤ most → walked n previous (entries_of s) ≡ yes → RightBehind previous s
yes-right zero n previous s from h y = none_right previous s (omega arith)
yes-right (suc most) n previous s from h y =
    of (lt_or_le 0 (length s)) (is_right (judged previous (first_entry s))) refl
    (λ some k. yes-right most (n + 1) (mode_after (first_entry s)) (drop entry_bytes s) (omega arith) (omega (arith, length-drop entry_bytes s)) k)
  where
    of : (0 < length s) ⊎ (length s ≤ 0) → (b : Bool) → is_right (judged previous (first_entry s)) ≡ b
        → (0 < length s → walked (n + 1) (mode_after (first_entry s)) (entries_of (drop entry_bytes s)) ≡ yes → RightBehind (mode_after (first_entry s)) (drop entry_bytes s))
        → RightBehind previous s
    of (inr z) b e behind = none_right previous s (omega arith)
    of (inl some) false e behind =
        let told : n ≡ 0 = ap (λ (c : Checked). c.entry) (walked-told n previous s some e ∙ y) in
        absurd (omega arith)
    of (inl some) true e behind =
        one_more previous s (right_means previous (first_entry s) e) (behind some (sym (walked_on n previous s some e) ∙ y))

-- ---- what is right is a yes

-- the first entry of a right trace, and what lies behind it
module _ (previous : ℕ) (s : List ℕ) (low : previous ≤ IS) (r : RightBehind previous s) (some : 0 < r.trace.count) where
  first-whole : length (first_entry s) ≡ entry_bytes
  first-whole = omega (arith, length-take entry_bytes s, r.trace.whole)

  first-right : is_right (judged previous (first_entry s)) ≡ true
  unfolding is_right
  first-right = ap is_right (means_right previous (first_entry s) (record {
    whole = is_whole (first_entry s) (r.trace.marked 0 some) (omega (arith, first-whole));
    in_range = not_out previous (first_entry s) low (omega (arith, first-whole)) (r.trace.in_range 0 some);
    chained = r.first some;
    due = r.trace.due 0 some;
  }))

  at_next : (P : List ℕ → Type 0) → ((i : ℕ) → i < r.trace.count → P (entry_at s i)) → (i n : ℕ) → n + 1 ≡ r.trace.count → i < n
      → P (entry_at (drop entry_bytes s) i)
  at_next P all i n e l = subst P (sym (entry-behind s i (i + 1) refl)) (all (i + 1) (omega arith))

  rest-right : (n : ℕ) → n + 1 ≡ r.trace.count → RightBehind (mode_after (first_entry s)) (drop entry_bytes s)
  rest-right n e = record {
    trace = record {
      count = n;
      whole = omega (arith, length-drop entry_bytes s, r.trace.whole);
      marked = λ i. at_next (λ e. is_marked e ≡ true) r.trace.marked i n e;
      in_range = λ i. at_next IsInRange r.trace.in_range i n e;
      chained = λ i l.
          ap (λ (e : List ℕ). mode_before e) (entry-behind s (i + 1) (i + 1 + 1) refl)
          ∙ r.trace.chained (i + 1) (omega arith)
          ∙ ap (λ (e : List ℕ). mode_after e) (sym (entry-behind s i (i + 1) refl));
      due = λ i. at_next (λ e. mode_after e ≡ due_mode e) r.trace.due i n e;
    };
    first = λ l.
        means_follows (mode_after (first_entry s)) (entry_at (drop entry_bytes s) 0)
        (ap (λ (e : List ℕ). mode_before e) (entry-behind s 0 1 refl) ∙ r.trace.chained 0 (omega arith));
  }

right-yes : (count n previous : ℕ) (s : List ℕ) → previous ≤ IS → (r : RightBehind previous s) → r.trace.count ≡ count → walked n previous (entries_of s) ≡ yes
unfolding rest-right
right-yes zero n previous s low r e = sym (walked_end n previous s (omega (arith, r.trace.whole)))
right-yes (suc count) n previous s low r e =
    let some : 0 < r.trace.count = omega arith in
    walked_on n previous s (omega (arith, r.trace.whole)) (first-right previous s low r some)
    ∙ right-yes count (n + 1) (mode_after (first_entry s)) (drop entry_bytes s) (mode-high (mode_after (first_entry s)) (r.trace.in_range 0 some).end)
    (rest-right previous s low r some count (omega arith)) refl

-- THE THEOREM
pub yes_exactly_where_right : (s : List ℕ) → (checked s ≡ yes) ↔ IsRightTrace s
unfolding checked
yes_exactly_where_right s = (
  λ y. (yes-right (length s) 1 no_mode s (omega arith) (omega arith) y).trace,
  λ r. right-yes r.count 1 no_mode s (omega arith) (record { trace = r; first = λ l. first-follows (entry_at s 0) }) refl,
)
