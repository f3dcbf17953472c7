-- WHERE A READ SAYS THAT IT BROKE: what its number and its place say together, for any profile.
use mathlib.Core.Path.{◌≡◌, refl, sym, ap, subst, ◌∙◌}
use mathlib.Core.List.{List}
use mathlib.Core.Logic.{◌⊎◌, inl, inr}
use Prim.Native.Nat.{ℕ, zero, suc, ◌+◌, ◌*◌, ◌≤◌, ◌<◌}
use native.Mathlib.Decide.{ℕ_discrete}
use native.Mathlib.Omega.{arith}
use borrow.Author.Tests.{ltb-true}
use lib.ListN.{length}
use Rattle.numbers.specs.Pieces.{total, unpack}
use Rattle.fields.specs.FirstSet.{FirstOf}
use Rattle.fields.proofs.FirstSetLaws.{first_of}
use Rattle.framing.specs.Refusals.{length_at, count_at, none, length_not_for_count, or_else, moved_by}
use Rattle.framing.specs.Framing.{length_of, head_refusal}
use Rattle.framing.specs.Refusals.{Refusal}
use Rattle.framing.proofs.RefusalLaws.{same_number, or_else_go, or_else-stop, or_else_assoc, differ, along, tested, unless-none, unless-some}
use Rattle.framing.proofs.FramingLaws.{headed}
use Rattle.framing.proofs.PlaceLaws.{HeadTold, no_field, head-told, head-zero, head-other, head_few}
use Rattle.profiles.specs.Profiles.{Profile, count_of, first_at, bytes_for, padding_for, end_at, widths_at, rules_refusal}
use Rattle.profiles.specs.Reading.{entries_of, bits_of, shape_refusal, end_refusal, read_refusal, read_answer}
use Rattle.profiles.specs.Places.{entry_at, entry_of, ruled_at, FirstRefused}
use Rattle.profiles.specs.declared.EntriesRead.{EntriesRead}
use Rattle.profiles.proofs.ProfileLaws.{Regular, at_none, total-suc, rules-suc}
use Rattle.profiles.proofs.ReadingLaws.{shape_right}
use Rattle.profiles.proofs.BehindLaws.{Headers}

-- ---- entry by entry

module _ (f : Profile) (reg : Regular f) (s : List ℕ) where
  -- what the refusal of n entries from bit p on tells
  data RulesTold (p n : ℕ) (r : Refusal) : Type 0 where
    all_allowed : r ≡ none → RulesTold p n r
    one-refused : r.number ≡ 4 → FirstRefused f s p n r.place → r.place < entry_at f s p n → RulesTold p n r

  -- the first entry starts at p, and a further one where it starts among the others
  pub here : (p : ℕ) → entry_at f s p 0 ≡ p
  unfolding total
  here p = rw (at_none f s p) (omega arith)

  further : (p i : ℕ) → entry_at f s p (suc i) ≡ entry_at f s (end_at f s p) i
  further p i = total-suc f s p i

  first-ruled : (p : ℕ) → ruled_at f s p 0 ≡ f.rules (entry_of f s p)
  first-ruled p = ap (λ (q : ℕ). f.rules (entry_of f s q)) (here p)

  further_ruled : (p i : ℕ) → ruled_at f s p (suc i) ≡ ruled_at f s (end_at f s p) i
  further_ruled p i = ap (λ (q : ℕ). f.rules (entry_of f s q)) (further p i)

  first_within : (p : ℕ) → p + (f.rules (entry_of f s p)).place < end_at f s p
  unfolding unpack
  first_within p = omega (arith, reg.within (entry_of f s p))

  module _ (p n : ℕ) where
    -- a first entry that is refused
    first-refused : (f.rules (entry_of f s p)).number ≡ 4 → FirstRefused f s p (suc n) (p + (f.rules (entry_of f s p)).place)
    first-refused four = record {
      entry = 0;
      there = omega arith;
      place = λ i. sym (here p) i + (sym (first-ruled p) i).place;
      refused = same_number (first-ruled p) ∙ four;
      before = λ i l. absurd (omega arith);
    }

    -- behind one that is not, the others tell it
    further_refused : (q : ℕ) → (f.rules (entry_of f s p)).number ≡ 0 → FirstRefused f s (end_at f s p) n q → FirstRefused f s p (suc n) q
    further_refused q zero_number w = record {
      entry = suc w.entry;
      there = omega (arith, w.there);
      place = w.place ∙ (λ i. sym (further p w.entry) i + (sym (further_ruled p w.entry) i).place);
      refused = same_number (further_ruled p w.entry) ∙ w.refused;
      before = before;
    }
      where
        before : (i : ℕ) → i < suc w.entry → (ruled_at f s p i).number ≡ 0
        before zero l = same_number (first-ruled p) ∙ zero_number
        before (suc i) l = same_number (further_ruled p i) ∙ w.before i (omega arith)

    joined : (rest : Refusal) → RulesTold (end_at f s p) n rest → RulesTold p (suc n) (or_else (moved_by p (f.rules (entry_of f s p))) rest)
    joined rest told = of (reg.only (entry_of f s p)) told
      where
        a : Refusal
        a = f.rules (entry_of f s p)

        of : (a ≡ none) ⊎ (a.number ≡ 4) → RulesTold (end_at f s p) n rest → RulesTold p (suc n) (or_else (moved_by p a) rest)
        of (inl e) (all_allowed z) = all_allowed (or_else_go _ _ (same_number e) ∙ z)
        of (inl e) (one-refused four w inside) =
            subst (RulesTold p (suc n)) (sym (or_else_go (moved_by p a) rest (same_number e)))
            (one-refused four (further_refused rest.place (same_number e) w) (omega (arith, further p n)))
        of (inr four) t =
            subst (RulesTold p (suc n)) (or_else-stop (moved_by p a) rest (λ z. omega arith))
            (one-refused four (first-refused four) (omega (arith, further p n, first_within p)))

  rules-told : (p n : ℕ) → RulesTold p n (rules_refusal f p (unpack s p (widths_at f s p n)) n)
  unfolding rules_refusal
  rules-told p zero = all_allowed refl
  rules-told p (suc n) = subst (RulesTold p (suc n)) (sym (rules-suc f reg s p n)) (joined p n _ (rules-told (end_at f s p) n))

-- ---- an entry that runs past the sub-packet

-- more entries end no earlier
further_on : (f : Profile) (s : List ℕ) (p i n : ℕ) → i ≤ n → entry_at f s p i ≤ entry_at f s p n
unfolding widths_at total
further_on f s p zero n h = omega arith
further_on f s p (suc i) zero h = absurd (omega arith)
further_on f s p (suc i) (suc n) h =
    omega (arith, total-suc f s p i, total-suc f s p n, further_on f s (end_at f s p) i n (omega arith))

-- so the length is not the entries'
pub runs_past : (f : Profile) (s : List ℕ) (room i : ℕ) → (head_refusal s f.kind f.kind).number ≡ 0 → i < count_of f s
    → 8 * length_of s < entry_at f s (first_at f) (suc i) → read_refusal f s room ≡ length_not_for_count
unfolding read_refusal shape_refusal bits_of
runs_past f s room i head there past =
    let end : entry_at f s (first_at f) (suc i) ≤ entry_at f s (first_at f) (count_of f s) = further_on f s (first_at f) (suc i) (count_of f s) (omega arith) in
    or_else_assoc _ _ _ ∙ or_else_go _ _ head ∙ sym (differ (length_of s) (bytes_for (entry_at f s (first_at f) (count_of f s))) _ (λ e. omega (arith, end, past, e)))

-- ---- the whole sub-packet

-- what the number and the place of a read's refusal say together
pub data Told (f : Profile) (s : List ℕ) (r : Refusal) : Type 0 where
  -- as a framing has it: no field is at fault, or the type, or the length
  at_header : HeadTold r → Told f s r
  -- the length is not the one for the entries
  at_count : r.number ≡ 3 → r.place ≡ count_at → 2 ≤ length_of s → Told f s r
  -- an entry is not allowed
  at_entry : r.number ≡ 4 → FirstRefused f s (first_at f) (count_of f s) r.place → r.place < 8 * length_of s → Told f s r
  -- the padding is not zero
  at_padding : r.number ≡ 5 → FirstOf s (bits_of f s) (padding_for (bits_of f s)) r.place → r.place < 8 * length_of s → Told f s r

module _ (f : Profile) (reg : Regular f) (s : List ℕ) where
  nothing : Told f s none
  nothing = at_header (no_field (omega arith) refl)

  by_shape : Told f s (shape_refusal f.kind s (bits_of f s))
  unfolding shape_refusal
  by_shape =
      along (Told f s) _ _ (λ ne. at_header (head-told s f.kind f.kind))
      (λ z. tested (Told f s) _ _ (λ e. at_count refl refl (headed s f.kind f.kind z).long) (λ e. nothing))

  module _ (right : length_of s ≡ bytes_for (bits_of f s)) where
    by-rules : Told f s (rules_refusal f (first_at f) (entries_of f s) (count_of f s))
    unfolding entries_of bits_of
    by-rules = of (rules-told f reg s (first_at f) (count_of f s))
      where
        of : {r : Refusal} → RulesTold f reg s (first_at f) (count_of f s) r → Told f s r
        of (all_allowed e) = subst (Told f s) (sym e) nothing
        of (one-refused four w inside) = at_entry four w (omega arith)

    by_end : (bytes room : ℕ) → Told f s (end_refusal s (bits_of f s) bytes room)
    unfolding end_refusal
    by_end bytes room =
        along (Told f s) _ _
        (λ ne. tested (Told f s) _ _ (λ e. let w = first_of s (bits_of f s) (padding_for (bits_of f s)) (ltb-true _ _ e) in at_padding refl w (omega (arith, w.before))) (λ e. nothing))
        (λ z. tested (Told f s) _ _ (λ e. at_header (no_field (omega arith) refl)) (λ e. nothing))

  -- THE PLACE OF EVERY READ
  pub told : (room : ℕ) → Told f s (read_refusal f s room)
  unfolding read_refusal
  told room =
      along (Told f s) _ _ (λ ne. by_shape)
      (λ z. let right : length_of s ≡ bytes_for (bits_of f s) = shape_right f.kind s (bits_of f s) z in
      along (Told f s) _ _ (λ ne. by-rules right) (λ y. by_end right (f.pieces * count_of f s) room))

  -- ALL OF THIS OF THE ANSWER of a read, by its number and its place
  pub answer-told : (o : List ℕ) → Told f s (record { number = (read_answer f s o).answer; place = (read_answer f s o).place })
  unfolding read_answer
  answer-told o = of (ℕ_discrete refusal.number 0)
    where
      refusal : Refusal
      refusal = read_refusal f s (length o)

      Of : EntriesRead → Type 0
      Of a = Told f s (record { number = a.answer; place = a.place })

      of : Dec (refusal.number ≡ 0) → Of (read_answer f s o)
      of (yes z) = subst Of (sym (unless-none _ _ _ z)) nothing
      of (no ne) = subst Of (sym (unless-some _ _ _ ne)) (told (length o))

-- ---- so

module _ {f : Profile} {s : List ℕ} {r : Refusal} where
  -- the place is 0 where the answer is 0, 1 or 2, and nowhere else
  pub place-zero : Told f s r → r.number ≤ 2 → r.place ≡ 0
  place-zero (at_header t) l = head-zero t l
  place-zero (at_count n p long) l = absurd (omega arith)
  place-zero (at_entry n w in-it) l = absurd (omega arith)
  place-zero (at_padding n w in-it) l = absurd (omega arith)

  pub place_not_zero : Told f s r → 3 ≤ r.number → 0 < r.place
  unfolding bits_of
  place_not_zero (at_header t) l = omega (arith, head-other t l)
  place_not_zero (at_count n p long) l = omega arith
  place_not_zero (at_entry n w in-it) l = omega (arith, w.place)
  place_not_zero (at_padding n w in-it) l = omega (arith, w.from)

  -- of a 3 it is the length or the count, and the count then lies within the sub-packet; of a 4 and a 5 it lies there too
  pub place_of_3 : Headers f → Told f s r → r.number ≡ 3 → (r.place ≡ length_at) ⊎ ((r.place ≡ count_at) × (first_at f ≤ 8 * length_of s))
  place_of_3 small (at_header t) e = inl (head-other t (omega arith))
  place_of_3 small (at_count n p long) e = inr (p, omega arith)
  place_of_3 small (at_entry n w in-it) e = absurd (omega arith)
  place_of_3 small (at_padding n w in-it) e = absurd (omega arith)

  pub place_of_4 : Told f s r → r.number ≡ 4 → FirstRefused f s (first_at f) (count_of f s) r.place × (r.place < 8 * length_of s)
  place_of_4 (at_header t) e = absurd (omega (arith, head_few t))
  place_of_4 (at_count n p long) e = absurd (omega arith)
  place_of_4 (at_entry n w in-it) e = (w, in-it)
  place_of_4 (at_padding n w in-it) e = absurd (omega arith)

  pub place_of_5 : Told f s r → r.number ≡ 5 → FirstOf s (bits_of f s) (padding_for (bits_of f s)) r.place × (r.place < 8 * length_of s)
  place_of_5 (at_header t) e = absurd (omega (arith, head_few t))
  place_of_5 (at_count n p long) e = absurd (omega arith)
  place_of_5 (at_entry n w in-it) e = absurd (omega arith)
  place_of_5 (at_padding n w in-it) e = (w, in-it)
