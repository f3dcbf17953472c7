-- WHAT FOLLOWS THE FIRST SUB-PACKET CHANGES NOTHING in a read, where it is accepted and where it is refused: bytes behind it may be there or
-- not, and be any.
use mathlib.Core.Path.{◌≡◌, sym, ap, ap₂, ◌∙◌}
use mathlib.Core.Bool.{not}
use mathlib.Core.List.{List, ◌++◌}
use Prim.Native.Nat.{ℕ, ◌+◌, ◌*◌, ◌≤◌}
use native.Mathlib.Decide.{ℕ_discrete}
use native.Mathlib.Omega.{arith}
use lib.Dec.{ltb, eqb}
use lib.ListN.{length, take, drop}
use Rattle.numbers.specs.Pieces.{total, unpack}
use Rattle.numbers.proofs.FieldLaws.{field-front}
use Rattle.numbers.proofs.PieceLaws.{unpack-front}
use Rattle.fields.proofs.FirstSetLaws.{first-front}
use Rattle.framing.specs.Refusals.{count_at, length_not_for_count, padding_set, refuse, or_else, unless_refused}
use Rattle.framing.specs.Framing.{length_of, head_refusal}
use Rattle.framing.proofs.RefusalLaws.{same_number, differ, or_else_assoc, unless-some}
use Rattle.framing.proofs.BehindLaws.{length_front, head-front, unread, inside, there}
use Rattle.profiles.specs.Profiles.{Profile, count_of, first_at, bytes_for, padding_for, widths_at, rules_refusal}
use Rattle.profiles.specs.Reading.{entries_of, bits_of, length_refusal, padding_refusal, room_refusal, shape_refusal, end_refusal, read_refusal, read_answer, read_into, read_with, refused_for}
use Rattle.profiles.proofs.ProfileLaws.{widths_agree}
use Rattle.profiles.proofs.ReadingLaws.{accepted}

-- type, length and count lie in the first two bytes
abbrev pub Headers : Profile → Type 0
Headers f = f.count_width ≤ 5

-- the first n bytes, among them the whole first sub-packet
module _ (f : Profile) (small : Headers f) (s : List ℕ) (n : ℕ) (two : 2 ≤ n) (whole : length_of s ≤ n) (enough : n ≤ length s) where
  length-same : length_of (take n s) ≡ length_of s
  length-same = length_front s n two whole enough

  pub count-front : count_of f (take n s) ≡ count_of f s
  count-front = field-front s count_at f.count_width n (omega arith)

  -- entries that end in these bytes by either reading have the same widths
  widths_front : bits_of f s ≤ 8 * n → widths_at f s (first_at f) (count_of f s) ≡ widths_at f (take n s) (first_at f) (count_of f (take n s))
  unfolding bits_of
  widths_front l =
      widths_agree f s (take n s) (8 * n) (λ p w h. sym (field-front s p w n h)) (first_at f) (count_of f s) l
      ∙ ap (widths_at f (take n s) (first_at f)) (sym count-front)

  bits-front : bits_of f s ≤ 8 * n → bits_of f s ≡ bits_of f (take n s)
  unfolding bits_of
  bits-front l = ap (λ (ws : List ℕ). first_at f + total ws) (widths_front l)

  bits_back : bits_of f (take n s) ≤ 8 * n → bits_of f (take n s) ≡ bits_of f s
  unfolding bits_of
  bits_back l =
      ap (λ (ws : List ℕ). first_at f + total ws)
      (widths_agree f (take n s) s (8 * n) (λ p w h. field-front s p w n h) (first_at f) (count_of f (take n s)) l
      ∙ ap (widths_at f s (first_at f)) count-front)

  -- a length that is the entries' says where entries and padding end
  module _ (right : length_of s ≡ bytes_for (bits_of f s)) where
    ends_in : bits_of f s ≤ 8 * n
    ends_in = omega arith

    pub entries_front : entries_of f s ≡ entries_of f (take n s)
    unfolding entries_of bits_of
    entries_front =
        sym (unpack-front s (first_at f) (widths_at f s (first_at f) (count_of f s)) n ends_in)
        ∙ ap (unpack (take n s) (first_at f)) (widths_front ends_in)

    length-refusal : length_refusal s (bits_of f s) ≡ length_refusal (take n s) (bits_of f (take n s))
    length-refusal = λ i. refuse (not (eqb (sym length-same i) (bytes_for (bits-front ends_in i)))) length_not_for_count

    padding_front : padding_refusal s (bits_of f s) ≡ padding_refusal (take n s) (bits_of f (take n s))
    padding_front =
        let p : ℕ = bits_of f s in
        let w : ℕ = padding_for p in
        (λ i. refuse (ltb 0 (sym (field-front s p w n (omega arith)) i)) (padding_set (sym (first-front s p w n (omega arith)) i)))
        ∙ ap (padding_refusal (take n s)) (bits-front ends_in)

    rest-front : (room : ℕ) → or_else (rules_refusal f (first_at f) (entries_of f s) (count_of f s)) (end_refusal s (bits_of f s) (f.pieces * count_of f s) room)
        ≡ or_else (rules_refusal f (first_at f) (entries_of f (take n s)) (count_of f (take n s))) (end_refusal (take n s) (bits_of f (take n s)) (f.pieces * count_of f (take n s)) room)
    unfolding end_refusal
    rest-front room = λ i. or_else (rules_refusal f (first_at f) (entries_front i) (sym count-front i))
        (or_else (padding_front i) (room_refusal (f.pieces * sym count-front i) room))

  pub refusal-front : (room : ℕ) → read_refusal f s room ≡ read_refusal f (take n s) room
  unfolding read_refusal shape_refusal
  refusal-front room = of (ℕ_discrete (length_of s) (bytes_for (bits_of f s)))
    where
      head : head_refusal (take n s) f.kind f.kind ≡ head_refusal s f.kind f.kind
      head = head-front s n two whole enough f.kind f.kind

      of : Dec (length_of s ≡ bytes_for (bits_of f s)) → read_refusal f s room ≡ read_refusal f (take n s) room
      of (yes right) = λ i. or_else (or_else (sym head i) (length-refusal right i)) (rest-front right room i)
      of (no wrong) =
          or_else_assoc _ _ _
          ∙ ap₂ or_else (sym head)
          (sym (differ (length_of s) (bytes_for (bits_of f s)) _ wrong)
          ∙ differ (length_of (take n s)) (bytes_for (bits_of f (take n s))) _
          (λ e. wrong (sym length-same ∙ e ∙ ap bytes_for (bits_back (omega (arith, length-same))))))
          ∙ sym (or_else_assoc _ _ _)

  module _ (o : List ℕ) where
    same-refusal : read_refusal f s (length o) ≡ read_refusal f (take n s) (length o)
    same-refusal = refusal-front (length o)

    answer-front : read_answer f s o ≡ read_answer f (take n s) o
    unfolding read_answer
    answer-front = λ i. unless_refused (same-refusal i).number (read_with (sym count-front i) (sym length-same i)) (refused_for (same-refusal i))

    into_front : read_into f s o ≡ read_into f (take n s) o
    unfolding read_into
    into_front = of (ℕ_discrete (read_refusal f s (length o)).number 0)
      where
        of : Dec ((read_refusal f s (length o)).number ≡ 0) → read_into f s o ≡ read_into f (take n s) o
        of (yes e) =
            λ i. unless_refused (same-refusal i).number
            (entries_front (accepted f s (length o) e).length_right i ++ drop (f.pieces * sym count-front i) o) o
        of (no ne) = unless-some _ _ _ ne ∙ sym (unless-some _ _ _ (λ z. ne (same_number same-refusal ∙ z)))

-- ---- the laws

module _ (f : Profile) (small : Headers f) where
  -- what follows is not read: neither the answer nor the output hangs on it
  pub read-unread : (s more o : List ℕ) → 2 ≤ length s → length_of s ≤ length s
      → (read_answer f (s ++ more) o ≡ read_answer f s o) × (read_into f (s ++ more) o ≡ read_into f s o)
  read-unread s more o two whole =
      let short : length_of (s ++ more) ≤ length s = inside s more two whole in
      let enough : length s ≤ length (s ++ more) = there s more two whole in (
        unread s more two whole (λ (t : List ℕ). read_answer f t o) (sym (answer-front f small (s ++ more) (length s) two short enough o)),
        unread s more two whole (λ (t : List ℕ). read_into f t o) (sym (into_front f small (s ++ more) (length s) two short enough o)),
      )
