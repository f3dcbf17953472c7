-- One reading: writing what was read gives the sub-packet again, reading what was written gives the list again, and two accepted
-- sub-packets with the same entries are the same bytes. For any profile.
use mathlib.Core.Path.{◌≡◌, refl, sym, ap, ap₂, ◌∙◌, subst}
use mathlib.Core.List.{List, [], ◌∷◌, ◌++◌}
use Prim.Native.Nat.{ℕ, zero, suc, ◌+◌, ◌*◌, ◌/◌, ◌%◌, ◌^◌, ◌≤◌, ◌<◌}
use native.Mathlib.Nat.{lt_of_le_of_lt, mul-zero, mul-suc, mul-div_cancel_left, mul-mod_right}
use native.Mathlib.Omega.{arith}
use borrow.Author.Tests.{lt-leb, leb-false}
use lib.ListN.{length, get_or, take, drop, length-drop, take-append-drop}
use lib.Pow.{pow_pos}
use lib.Seq.{take_at}
use Rattle.numbers.specs.Fields.{field}
use Rattle.numbers.specs.Pieces.{total, unpack}
use Rattle.numbers.proofs.FieldLaws.{Bytes, field_lt}
use Rattle.numbers.proofs.PieceLaws.{Fit, none, one, unpack-append, unpack-pack, length-unpack, length-pack, round_trip, pack_past}
use Rattle.framing.specs.Refusals.{refuse, or_else, unless_refused}
use Rattle.framing.specs.Framing.{type_of, length_of, head_refusal}
use Rattle.framing.proofs.RefusalLaws.{same_number, or_else-first, or_else_then, or_else_go, next, same, not_below, last_not_below, refuse-none, unless-none}
use Rattle.profiles.specs.Profiles.{Profile, count_of, first_at, bytes_for, padding_for, widths_for, widths_at, widths_of, rules_refusal}
use Rattle.profiles.specs.Reading.{entries_of, bits_of, shape_refusal, end_refusal, read_refusal, read_with, read_answer, read_into}
use Rattle.profiles.specs.Writing.{entries_in, bits_for, size_for, packet_widths, packet_values, written, widths_refusal, entry_refusal, list_refusal, write_refusal, written_with, write_answer, write_into}
use Rattle.profiles.specs.declared.EntriesRead.{EntriesRead}
use Rattle.profiles.specs.declared.EntriesWritten.{EntriesWritten}
use Rattle.profiles.proofs.ProfileLaws.{Regular, some, length-of, drop-entry, widths_read, widths_same}
use Rattle.profiles.proofs.ReadingLaws.{Accepted, accepted, length_entries}
use Rattle.profiles.proofs.WritingLaws.{Listed, listed, total_packet}

-- ---- writing what was read

-- the entries that widths read, and behind them padding that is zero
body_read : (f : Profile) (s ws : List ℕ) → ws ≡ widths_at f s (first_at f) (count_of f s) → field s (bits_of f s) (padding_for (bits_of f s)) ≡ 0
    → unpack s (first_at f) (ws ++ (padding_for (first_at f + total ws) ∷ [])) ≡ entries_of f s ++ (0 ∷ [])
unfolding unpack entries_of bits_of
body_read f s ws e padding =
    let all : List ℕ = widths_at f s (first_at f) (count_of f s) in
    ap (λ (l : List ℕ). unpack s (first_at f) (l ++ (padding_for (first_at f + total l) ∷ []))) e
    ∙ unpack-append s (first_at f) all (padding_for (first_at f + total all) ∷ [])
    ∙ ap (λ (v : ℕ). unpack s (first_at f) all ++ (v ∷ [])) padding

module _ (f : Profile) (reg : Regular f) where
  count_entries : (s : List ℕ) → entries_in f (entries_of f s) ≡ count_of f s
  count_entries s = ap (λ (k : ℕ). k / f.pieces) (length_entries f reg s) ∙ mul-div_cancel_left (count_of f s) (some f reg)

  module _ (s : List ℕ) where
    abbrev list : List ℕ
    list = entries_of f s

    abbrev n : ℕ
    n = count_of f s

    -- the entries have outside the widths that they have inside
    outside : widths_of f list n ≡ widths_at f s (first_at f) n
    unfolding entries_of
    outside = widths_read f reg s (first_at f) n

    bits-read : bits_for f list n ≡ bits_of f s
    unfolding bits_of
    bits-read = ap (λ (ws : List ℕ). first_at f + total ws) outside

    -- so the list alone tells the length
    size-read : (room : ℕ) → Accepted f s room → length_of s ≡ size_for f list n
    size-read room g = g.length_right ∙ ap bytes_for (sym bits-read)

    pub size_of : (room : ℕ) → Accepted f s room → length_of s ≡ size_for f list (entries_in f list)
    size_of room g = size-read room g ∙ ap (size_for f list) (sym (count_entries s))

    -- an accepted sub-packet is its values, piece by piece
    values_read : (room : ℕ) → Accepted f s room → unpack s 0 (packet_widths f list n) ≡ packet_values f list n
    unfolding packet_widths packet_values unpack
    values_read room g =
        let typed : type_of s ≡ f.kind = omega (arith, g.head.above, g.head.below) in
        λ i. typed i ∷ size-read room g i ∷ n ∷ body_read f s (widths_of f list n) outside g.padding i

  -- writing what was read gives the sub-packet again
  pub write_read : (s o : List ℕ) (room : ℕ) → Bytes s → Bytes o → (read_refusal f s room).number ≡ 0
      → length_of s ≤ length o → take (length_of s) (written f (entries_of f s) o) ≡ take (length_of s) s
  unfolding written
  write_read s o room hs ho e fits =
      let g = accepted f s room e in
      let whole : total (packet_widths f (entries_of f s) (count_of f s)) ≡ 8 * length_of s =
      total_packet f (entries_of f s) (count_of f s) ∙ ap (λ (k : ℕ). 8 * k) (sym (size-read s room g)) in
      rw (count_entries s, ← values_read s room g)
      (round_trip o s (length_of s) (packet_widths f (entries_of f s) (count_of f s)) ho hs whole fits g.head.whole)

  -- so two accepted sub-packets with the same entries are the same bytes
  pub one_reading : (s t : List ℕ) (room more : ℕ) → Bytes s → Bytes t
      → (read_refusal f s room).number ≡ 0 → (read_refusal f t more).number ≡ 0 → entries_of f s ≡ entries_of f t → take (length_of s) s ≡ take (length_of t) t
  one_reading s t room more hs ht es et equal =
      let g = accepted f s room es in
      let size : length_of s ≡ length_of t =
      size_of s room g ∙ ap (λ (l : List ℕ). size_for f l (entries_in f l)) equal ∙ sym (size_of t more (accepted f t more et)) in
      sym (write_read s s room hs hs es g.head.whole)
      ∙ ap₂ (λ (k : ℕ) (l : List ℕ). take k (written f l s)) size equal
      ∙ write_read t s more ht hs et (subst (λ (k : ℕ). k ≤ length s) size g.head.whole)

-- bytes past the output stay
pub written_past : (f : Profile) (list o : List ℕ) → Bytes o
    → drop (size_for f list (entries_in f list)) (written f list o) ≡ drop (size_for f list (entries_in f list)) o
unfolding written
written_past f list o ho = pack_past o (size_for f list (entries_in f list)) _ _ ho (total_packet f list (entries_in f list))

-- ---- what the header can say

-- its 4 bits say the type, the count's bits every count up to `most`, and its 7 bits the length of so many entries
pub record Sayable (f : Profile) (most : ℕ) : Type 0 where
  pub kinds : f.kind < 16
  pub counts : most < 2 ^ f.count_width
  pub lengths : (list : List ℕ) (n : ℕ) → n ≤ most → size_for f list n ≤ 127

-- and no more entries than `most` can be said
abbrev pub Full : Profile → ℕ → Type 0
Full f most = (s : List ℕ) → bytes_for (bits_of f s) ≤ 127 → count_of f s ≤ most

-- bytes that were read by widths fit them
widths_fitting : (s : List ℕ) (p : ℕ) (ws more : List ℕ) → (widths_refusal ws (unpack s p (ws ++ more))).number ≡ 0
unfolding widths_refusal unpack or_else refuse unless_refused
widths_fitting s p [] more = refl
widths_fitting s p (w ∷ ws) more = simp (lt-leb (2 ^ w) (field s p w) (field_lt s p w)) (widths_fitting s (p + w) ws more)

module _ (f : Profile) (reg : Regular f) where
  -- so entries that were read, and that the rules do not refuse inside, are not refused outside
  read-listed : (s : List ℕ) (p n : ℕ) → (rules_refusal f p (unpack s p (widths_at f s p n)) n).number ≡ 0 → (list_refusal f (unpack s p (widths_at f s p n)) n).number ≡ 0
  unfolding rules_refusal list_refusal entry_refusal widths_at unpack
  read-listed s p zero e = refl
  read-listed s p (suc n) e =
      let ws : List ℕ = widths_for f (field s p f.first) in
      let more : List ℕ = widths_at f s (p + total ws) n in
      let rest : drop f.pieces (unpack s p (ws ++ more)) ≡ unpack s (p + total ws) more = drop-entry f reg s p (field s p f.first) more in
      let e₁ = or_else-first _ _ e in
      let e₂ = or_else_then _ _ e in
      let left : (list_refusal f (drop f.pieces (unpack s p (ws ++ more))) n).number ≡ 0 =
      same_number (ap (λ (l : List ℕ). list_refusal f l n) rest)
      ∙ read-listed s (p + total ws) n (same_number (ap (λ (l : List ℕ). rules_refusal f (p + total ws) l n) (sym rest)) ∙ e₂) in
      same_number (or_else_go _ _ (same_number (or_else_go _ _ (widths_fitting s p ws more)) ∙ e₁)) ∙ left

  pub entries_listed : (s : List ℕ) → (rules_refusal f (first_at f) (entries_of f s) (count_of f s)).number ≡ 0 → (list_refusal f (entries_of f s) (count_of f s)).number ≡ 0
  unfolding entries_of
  entries_listed s = read-listed s (first_at f) (count_of f s)

  -- the writer takes what was read, given room
  pub write_accepts : (most : ℕ) → Full f most → (s : List ℕ) (room more : ℕ) → (read_refusal f s room).number ≡ 0 → length_of s ≤ more
      → (write_refusal f most (entries_of f s) more).number ≡ 0
  unfolding write_refusal
  write_accepts most full s room more e fits =
      let g = accepted f s room e in
      let list : List ℕ = entries_of f s in
      let en : entries_in f list ≡ count_of f s = count_entries f reg s in
      let whole : length list % f.pieces ≡ 0 = ap (λ (k : ℕ). k % f.pieces) (length_entries f reg s) ∙ mul-mod_right f.pieces (count_of f s) in
      let right : (list_refusal f list (entries_in f list)).number ≡ 0 = same_number (ap (list_refusal f list) en) ∙ entries_listed s g.rules in
      let size : length_of s ≡ size_for f list (entries_in f list) = size_of f reg s room g in
      let few : count_of f s ≤ most = full s (omega (arith, g.length_right, field_lt s 4 7)) in
      same_number
      (sym
      (not_below 0 (length list % f.pieces) _ _ (omega arith)
      (not_below most (entries_in f list) _ _ (omega arith)
      (next _ _ right (last_not_below more (size_for f list (entries_in f list)) _ (omega arith))))))

-- ---- reading what was written

fit_append : {ws xs bs ys : List ℕ} → Fit ws xs → Fit bs ys → Fit (ws ++ bs) (xs ++ ys)
fit_append none g = g
fit_append (one h f) g = one h (fit_append f g)

-- the first bytes of a list that pass the widths fit them
fit_widths : (ws list : List ℕ) → length ws ≤ length list → (widths_refusal ws list).number ≡ 0 → Fit ws (take (length ws) list)
unfolding widths_refusal
fit_widths [] list l e = none
fit_widths (w ∷ ws) [] l e = absurd (omega arith)
fit_widths (w ∷ ws) (x ∷ list) l e =
    one (leb-false _ _ (refuse-none _ _ _ (or_else-first _ _ e))) (fit_widths ws list (omega arith) (or_else_then _ _ e))

-- a list that ends in one more value, taken apart
snoc_parts : (xs ys : List ℕ) (x y : ℕ) → length xs ≡ length ys → xs ++ (x ∷ []) ≡ ys ++ (y ∷ []) → (xs ≡ ys) × (x ≡ y)
snoc_parts [] [] x y l e = (refl, (cc))
snoc_parts [] (b ∷ ys) x y l e = absurd (omega arith)
snoc_parts (a ∷ xs) [] x y l e = absurd (omega arith)
snoc_parts (a ∷ xs) (b ∷ ys) x y l e =
    let r : (xs ≡ ys) × (x ≡ y) = snoc_parts xs ys x y (omega arith) (cc) in
    (ap₂ (λ (c : ℕ) (cs : List ℕ). c ∷ cs) (cc) r.0, r.1)

-- what a written sub-packet says
pub record Wrote (f : Profile) (list s : List ℕ) : Type 0 where
  pub typed : type_of s ≡ f.kind
  pub sized : length_of s ≡ size_for f list (entries_in f list)
  pub counted : count_of f s ≡ entries_in f list
  pub entries : entries_of f s ≡ list
  pub bits : bits_of f s ≡ bits_for f list (entries_in f list)
  pub padded : field s (bits_of f s) (padding_for (bits_of f s)) ≡ 0

module _ (f : Profile) (reg : Regular f) where
  -- the entries of a list that is not refused fit their fields
  fit_entries : (list : List ℕ) (n : ℕ) → length list ≡ f.pieces * n → (list_refusal f list n).number ≡ 0 → Fit (widths_of f list n) list
  unfolding list_refusal entry_refusal widths_of
  fit_entries [] zero l e = none
  fit_entries (x ∷ list) zero l e = absurd (omega (arith, mul-zero f.pieces))
  fit_entries list (suc n) l e =
      let ws : List ℕ = widths_for f (get_or list 0 0) in
      let long : length ws ≡ f.pieces = reg.long (get_or list 0 0) in
      let more : f.pieces * suc n ≡ f.pieces * n + f.pieces = mul-suc f.pieces n in
      let first : Fit ws (take f.pieces list) =
      subst (λ (k : ℕ). Fit ws (take k list)) long (fit_widths ws list (omega arith) (or_else-first _ _ (or_else-first _ _ e))) in
      subst (Fit _) (take-append-drop f.pieces list)
      (fit_append first (fit_entries (drop f.pieces list) n (rw length-drop (omega arith)) (or_else_then _ _ e)))

  -- and the rules do not refuse them inside
  rules-listed : (list : List ℕ) (p n : ℕ) → (list_refusal f list n).number ≡ 0 → (rules_refusal f p list n).number ≡ 0
  unfolding list_refusal entry_refusal rules_refusal
  rules-listed list p zero e = refl
  rules-listed list p (suc n) e =
      same_number (or_else_go _ _ (or_else_then _ _ (or_else-first _ _ e)))
      ∙ rules-listed (drop f.pieces list) (p + total (widths_for f (get_or list 0 0))) n (or_else_then _ _ e)

  -- a written sub-packet is its values, piece by piece
  values_written : (most : ℕ) → Sayable f most → (list o : List ℕ) → Listed f most list (length o)
      → unpack (written f list o) 0 (packet_widths f list (entries_in f list)) ≡ packet_values f list (entries_in f list)
  unfolding written packet_widths packet_values
  values_written most ok list o g =
      let n : ℕ = entries_in f list in
      let size : size_for f list n ≤ 127 = ok.lengths list n g.few in
      unpack-pack o 0
      (one ok.kinds (one (omega arith) (one (lt_of_le_of_lt g.few ok.counts) (fit_append (fit_entries list n g.whole g.right) (one (pow_pos (padding_for (bits_for f list n))) none)))))
      (omega (arith, total_packet f list n, g.fits))

  wrote_parts : (list s : List ℕ) → length list ≡ f.pieces * entries_in f list
      → unpack s 0 (packet_widths f list (entries_in f list)) ≡ packet_values f list (entries_in f list) → Wrote f list s
  unfolding packet_widths packet_values unpack entries_of bits_of
  wrote_parts list s whole e =
      let n : ℕ = entries_in f list in
      let start : ℕ = first_at f in
      let ws : List ℕ = widths_of f list n in
      let w : ℕ = padding_for (bits_for f list n) in
      let en : count_of f s ≡ n = cc in
      let rest : unpack s start (ws ++ (w ∷ [])) ≡ list ++ (0 ∷ []) = cc in
      let both : unpack s start ws ++ (field s (start + total ws) w ∷ []) ≡ list ++ (0 ∷ []) = sym (unpack-append s start ws (w ∷ [])) ∙ rest in
      let long : length (unpack s start ws) ≡ length list = length-unpack s start ws ∙ length-of f reg list n ∙ sym whole in
      let parts = snoc_parts (unpack s start ws) list (field s (start + total ws) w) 0 long both in
      let ew : widths_at f s start (count_of f s) ≡ ws = ap (widths_at f s start) en ∙ widths_same f reg s start list n parts.0 in
      let bits : start + total (widths_at f s start (count_of f s)) ≡ bits_for f list n = ap (λ (l : List ℕ). start + total l) ew in
      record {
        typed = cc;
        sized = cc;
        counted = en;
        entries = ap (unpack s start) ew ∙ parts.0;
        bits = bits;
        padded = ap (λ (b : ℕ). field s b (padding_for b)) bits ∙ parts.1;
      }

  -- reading what was written gives the list again
  pub wrote : (most : ℕ) → Sayable f most → (list o : List ℕ) → (write_refusal f most list (length o)).number ≡ 0 → Wrote f list (written f list o)
  wrote most ok list o e =
      let g = listed f most list (length o) e in
      wrote_parts list (written f list o) g.whole (values_written most ok list o g)

head-accepted : (s : List ℕ) (kind : ℕ) → 2 ≤ length s → type_of s ≡ kind → 2 ≤ length_of s → length_of s ≤ length s → (head_refusal s kind kind).number ≡ 0
unfolding head_refusal
head-accepted s kind two typed long whole =
    same_number
    (sym
    (not_below (length s) 2 _ _ two
    (not_below (type_of s) kind _ _ (omega arith)
    (not_below kind (type_of s) _ _ (omega arith) (not_below (length_of s) 2 _ _ long (last_not_below (length s) (length_of s) _ whole))))))

length-written : (f : Profile) (list o : List ℕ) → length (written f list o) ≡ length o
unfolding written
length-written f list o = length-pack o 0 _ _

module _ (f : Profile) (reg : Regular f) (most : ℕ) (ok : Sayable f most) where
  -- the reader takes whatever the writer wrote, given room
  pub read-accepts : (list o : List ℕ) (room : ℕ) → (write_refusal f most list (length o)).number ≡ 0 → length list ≤ room
      → (read_refusal f (written f list o) room).number ≡ 0
  unfolding read_refusal shape_refusal end_refusal
  read-accepts list o room e fits =
      let s : List ℕ = written f list o in
      let g = listed f most list (length o) e in
      let w = wrote f reg most ok list o e in
      let n : ℕ = entries_in f list in
      let long : length s ≡ length o = length-written f list o in
      let rules : (rules_refusal f (first_at f) (entries_of f s) (count_of f s)).number ≡ 0 =
      same_number (ap₂ (rules_refusal f (first_at f)) w.entries w.counted) ∙ rules-listed f reg list (first_at f) n g.right in
      let right : length_of s ≡ bytes_for (bits_of f s) = w.sized ∙ ap bytes_for (sym w.bits) in
      let bytes : f.pieces * count_of f s ≡ length list = ap (λ (k : ℕ). f.pieces * k) w.counted ∙ sym g.whole in
      let shape = next _ _ (head-accepted s f.kind (omega (arith, g.fits)) w.typed (omega (arith, w.sized)) (omega (arith, w.sized, g.fits))) (sym (same _ _ _ right)) in
      same_number
      (sym
      (next _ _ (same_number (sym shape))
      (next _ _ rules
      (not_below 0 (field s (bits_of f s) (padding_for (bits_of f s))) _ _ (omega (arith, w.padded)) (last_not_below room (f.pieces * count_of f s) _ (omega arith))))))

-- ---- of what the two functions leave

module _ (f : Profile) (reg : Regular f) where
  -- the entries that an accepted read leaves at the start of its output
  pub read-list : (s o : List ℕ) → (read_refusal f s (length o)).number ≡ 0 → take (f.pieces * count_of f s) (read_into f s o) ≡ entries_of f s
  unfolding read_into
  read-list s o e =
      ap (take (f.pieces * count_of f s)) (unless-none _ _ _ e) ∙ take_at (entries_of f s) _ (f.pieces * count_of f s) (length_entries f reg s)

  -- there and back: those bytes, written, are accepted with the same entries and bytes, and give the sub-packet again
  pub there_and_back : (most : ℕ) → Full f most → (s o out : List ℕ) → Bytes s → Bytes out → (read_refusal f s (length o)).number ≡ 0 → length_of s ≤ length out
      → (write_answer f most (take (f.pieces * count_of f s) (read_into f s o)) out ≡ written_with (read_answer f s o).entries (read_answer f s o).bytes)
      × (take (length_of s) (write_into f most (take (f.pieces * count_of f s) (read_into f s o)) out) ≡ take (length_of s) s)
  unfolding write_answer write_into read_answer
  there_and_back most full s o out hs ho e fits =
      let list : List ℕ = entries_of f s in
      let w : (write_refusal f most list (length out)).number ≡ 0 = write_accepts f reg most full s (length o) (length out) e fits in
      let size : size_for f list (entries_in f list) ≡ length_of s = sym (size_of f reg s (length o) (accepted f s (length o) e)) in
      rw (read-list s o e) (
        unless-none _ _ _ w ∙ ap₂ written_with (count_entries f reg s) size ∙ ap (λ (a : EntriesRead). written_with a.entries a.bytes) (sym (unless-none _ _ _ e)),
        ap (take (length_of s)) (unless-none _ _ _ w) ∙ write_read f reg s out (length o) hs ho e fits,
      )

  -- and back and there: a sub-packet that was written, read, is accepted with the same entries and bytes, and gives the list again
  pub back_and_there : (most : ℕ) → Sayable f most → (list o out : List ℕ) → (write_refusal f most list (length o)).number ≡ 0 → length list ≤ length out
      → (read_answer f (write_into f most list o) out ≡ read_with (write_answer f most list o).entries (write_answer f most list o).bytes)
      × (take (length list) (read_into f (write_into f most list o) out) ≡ list)
  unfolding write_answer write_into read_answer
  back_and_there most ok list o out e fits =
      let s : List ℕ = written f list o in
      let w = wrote f reg most ok list o e in
      let r : (read_refusal f s (length out)).number ≡ 0 = read-accepts f reg most ok list o (length out) e fits in
      let long : length list ≡ f.pieces * count_of f s = sym (ap length w.entries) ∙ length_entries f reg s in
      rw (unless-none (write_refusal f most list (length o)).number s o e) (
        unless-none _ _ _ r ∙ ap₂ read_with w.counted w.sized ∙ ap (λ (a : EntriesWritten). read_with a.entries a.bytes) (sym (unless-none _ _ _ e)),
        ap (λ (k : ℕ). take k (read_into f s out)) long ∙ read-list s out r ∙ w.entries,
      )
