-- Laws of writing a profile.
use mathlib.Core.Path.{◌≡◌, refl, sym, ap, ap₂, ◌∙◌}
use mathlib.Core.List.{List, [], ◌∷◌, ◌++◌}
use mathlib.Core.Bool.{Bool}
use mathlib.Core.Logic.{⊎_elim, ◌⊎◌, inl, inr}
use Prim.Native.Nat.{ℕ, zero, suc, ◌+◌, ◌-◌, ◌*◌, ◌%◌, ◌^◌, ◌≤◌, ◌<◌}
use native.Mathlib.Nat.{add-zero, mul-le-mul_left, mod-add-div}
use native.Mathlib.Omega.{arith}
use native.Mathlib.Numerals.{add-one, one-add}
use borrow.Author.Tests.{lt-leb, le-leb, ltb-false}
use lib.Dec.{leb}
use lib.ListN.{length, get_or, take, drop, take-append-drop}
use lib.Seq.{drop_at, drop-drop, get_or-drop}
use Rattle.std.proofs.lemmas.List.{length-take-le, length-drop, get_or-take}
use Rattle.numbers.specs.Fields.{put}
use Rattle.numbers.specs.Pieces.{total, pack}
use Rattle.numbers.specs.Numbers.{put_number}
use Rattle.numbers.proofs.FieldLaws.{Bytes, bytes-put, lt_or_le}
use Rattle.numbers.proofs.PieceLaws.{total-append, pack-append, pack_extra}
use Rattle.numbers.proofs.JoinedLaws.{put_cleared, joined, pack_joined, pack-first}
use Rattle.framing.specs.Refusals.{none, too_wide, refuse, or_else, unless_refused, untold}
use Rattle.framing.specs.Refusals.{Refusal}
use Rattle.framing.proofs.RefusalLaws.{same_number, or_else-first, or_else_then, or_else_go, along, tested, ends, refuse-none, unless-none, unless-some}
use Rattle.profiles.specs.Profiles.{Profile, first_at, padding_for, widths_for, widths_of}
use Rattle.profiles.specs.Writing.{entries_in, bits_for, size_for, packet_widths, packet_values, written, widths_refusal, entry_refusal, list_refusal, write_refusal, written_with, not_written, write_answer, write_into}
use Rattle.profiles.specs.Numbered.{IsNumberOf}
use Rattle.profiles.proofs.ProfileLaws.{Regular, some, length-of}

-- a whole sub-packet takes whole bytes
pub total_packet : (f : Profile) (list : List ℕ) (n : ℕ) → total (packet_widths f list n) ≡ 8 * size_for f list n
unfolding packet_widths total
total_packet f list n = rw total-append (omega arith)

-- ---- a refusal on one ground

-- too wide and not allowed have one number: a refusal without a place that can only be one of the two is none or too wide
abbrev pub Only : Refusal → Type 0
Only a = (a ≡ none) ⊎ (a ≡ too_wide)

-- where the second holds, it does not matter whether the first does
pub only_last : (a b : Refusal) → Only a → b ≡ too_wide → or_else a b ≡ too_wide
unfolding or_else unless_refused
only_last a b (inl e) f = rw (e, f)
only_last a b (inr e) f = rw e

only_refuse : (t : Bool) → Only (refuse t too_wide)
only_refuse t = tested Only t too_wide (λ e. inr refl) (λ e. inl refl)

pub only_widths : (ws list : List ℕ) → Only (widths_refusal ws list)
unfolding widths_refusal
only_widths [] list = inl refl
only_widths (w ∷ ws) list = along Only _ _ (λ ne. only_refuse (leb (2 ^ w) (get_or list 0 0))) (λ z. only_widths ws (drop 1 list))

pub only_rules : (f : Profile) → Regular f → (list : List ℕ) → Only (untold (f.rules list))
only_rules f reg list = ⊎_elim (λ e. inl (ap untold e)) (λ e. inr (λ i. record { number = e i; place = 0 })) (reg.only list)

-- ---- the widths

pub widths_none : (list : List ℕ) → (widths_refusal [] list).number ≡ 0
unfolding widths_refusal
widths_none list = refl

-- one byte that is too wide is enough
pub widths_wide : (ws list : List ℕ) (k : ℕ) → k < length ws → 2 ^ get_or ws k 0 ≤ get_or list k 0 → widths_refusal ws list ≡ too_wide
unfolding widths_refusal or_else refuse unless_refused
widths_wide [] list k h l = absurd (omega arith)
widths_wide (w ∷ ws) list zero h l = rw (le-leb (2 ^ w) (get_or list 0 0) l)
widths_wide (w ∷ ws) list (suc k) h l =
    only_last _ _ (only_refuse (leb (2 ^ w) (get_or list 0 0)))
    (widths_wide ws (drop 1 list) k (omega arith) (rw (get_or-drop 1 list k 0, one-add k) l))

-- so where none is refused each has room, and the other way round
pub widths_each : (ws list : List ℕ) → (widths_refusal ws list).number ≡ 0 → (k : ℕ) → k < length ws → get_or list k 0 < 2 ^ get_or ws k 0
widths_each ws list e k h =
    ⊎_elim (λ (l : get_or list k 0 < 2 ^ get_or ws k 0). l)
    (λ (l : 2 ^ get_or ws k 0 ≤ get_or list k 0). absurd (omega (arith, e, same_number (widths_wide ws list k h l)))) (lt_or_le _ _)

pub widths_all : (ws list : List ℕ) → ((k : ℕ) → k < length ws → get_or list k 0 < 2 ^ get_or ws k 0) → (widths_refusal ws list).number ≡ 0
unfolding widths_refusal or_else refuse unless_refused
widths_all [] list h = refl
widths_all (w ∷ ws) list h =
    let behind : (k : ℕ) → k < length ws → get_or (drop 1 list) k 0 < 2 ^ get_or ws k 0 = λ k l. rw (get_or-drop 1 list k 0, one-add k) (h (suc k) (omega arith)) in
    simp (lt-leb (2 ^ w) (get_or list 0 0) (h 0 (omega arith))) (widths_all ws (drop 1 list) behind)

-- a byte of what is left of a list
pub first_byte : (list : List ℕ) (k : ℕ) → get_or (drop k list) 0 0 ≡ get_or list k 0
first_byte list k = get_or-drop k list 0 0 ∙ ap (λ (i : ℕ). get_or list i 0) (add-zero k)

-- none is, where each has room
pub widths_fit : (w : ℕ) (ws list : List ℕ) (k : ℕ) → get_or list k 0 < 2 ^ w → (widths_refusal ws (drop (suc k) list)).number ≡ 0
    → (widths_refusal (w ∷ ws) (drop k list)).number ≡ 0
unfolding widths_refusal or_else refuse unless_refused
widths_fit w ws list k l e =
    let d : drop 1 (drop k list) ≡ drop (suc k) list = drop-drop 1 k list ∙ ap (λ (n : ℕ). drop n list) (add-one k) in
    rw (first_byte list k, d) (simp (lt-leb (2 ^ w) (get_or list k 0) l) e)

-- ---- an entry by its own bytes

-- widths are judged by as many bytes as there are widths
widths_own : (ws list more : List ℕ) → length ws ≤ length list → widths_refusal ws (list ++ more) ≡ widths_refusal ws list
unfolding widths_refusal
widths_own [] list more h = refl
widths_own (w ∷ ws) [] more h = absurd (omega arith)
widths_own (w ∷ ws) (v ∷ list) more h = ap (or_else (refuse (leb (2 ^ w) v) too_wide)) (widths_own ws list more (omega arith))

-- a list that has m entries has each of them
pub entry_there : (n i m len : ℕ) → i < m → n * m ≤ len → n * (i + 1) ≤ len
entry_there n i m len h all =
    let next : i + 1 ≤ m = omega arith in
    omega (arith, mul-le-mul_left n next)

-- what stands behind entry i in a list counts for nothing: neither where the entry is judged, nor where it is put
module _ (f : Profile) (reg : Regular f) (list : List ℕ) (n i : ℕ) (is : n ≡ f.pieces) (there : n * (i + 1) ≤ length list) (entry : List ℕ) (own : entry ≡ take n (drop (n * i) list)) where
  abbrev left : List ℕ
  left = drop (n * i) list

  long : length entry ≡ f.pieces
  long = ap length own ∙ length-take-le n left (rw length-drop (omega arith)) ∙ is

  all : entry ++ drop n left ≡ left
  all = ap (λ (l : List ℕ). l ++ drop n left) own ∙ take-append-drop n left

  pub first_own : get_or entry 0 0 ≡ get_or (drop (n * i) list) 0 0
  first_own = ap (λ (l : List ℕ). get_or l 0 0) own ∙ get_or-take n left 0 0 (omega (arith, some f reg))

  pub entry_own : entry_refusal f entry ≡ entry_refusal f (drop (n * i) list)
  unfolding entry_refusal
  entry_own =
      ap₂ (λ (a b : Refusal). or_else a (untold b))
      (sym (widths_own (widths_for f (get_or entry 0 0)) entry (drop n left) (omega (arith, reg.long (get_or entry 0 0), long))))
      (sym (reg.local entry (drop n left) long))
      ∙ (λ j. or_else (widths_refusal (widths_for f (first_own j)) (all j)) (untold (f.rules (all j))))

  pub put_own : (o : List ℕ) (p : ℕ) → pack o p (widths_for f (get_or entry 0 0)) entry ≡ pack o p (widths_for f (get_or entry 0 0)) (drop (n * i) list)
  put_own o p =
      sym (pack_extra o p (widths_for f (get_or entry 0 0)) entry (drop n left) (reg.long (get_or entry 0 0) ∙ sym long))
      ∙ ap (pack o p (widths_for f (get_or entry 0 0))) all

-- an entry as one number, its pieces one behind the other. The first goes in as it is: the field is as wide as the entry, and so has room for no more of
-- its digits than the piece
pub entry_number : (f : Profile) → Regular f → (entry : List ℕ) (x : ℕ) → f.pieces ≤ length entry
    → x ≡ get_or entry 0 0 * 2 ^ total (f.others (get_or entry 0 0)) + joined (f.others (get_or entry 0 0)) (drop 1 entry) → IsNumberOf f entry x
unfolding total
entry_number f reg entry x long e o p ho =
    ap (put o p (total (widths_for f (get_or entry 0 0)))) e
    ∙ sym (pack-first o p f.first (f.others (get_or entry 0 0)) entry ho (omega (arith, reg.long (get_or entry 0 0))))

-- ---- entry by entry

module _ (f : Profile) (reg : Regular f) where
  -- one byte that is too wide refuses the entry
  pub entry-wide : (list : List ℕ) (k : ℕ) → k < f.pieces → 2 ^ get_or (widths_for f (get_or list 0 0)) k 0 ≤ get_or list k 0 → too_wide ≡ entry_refusal f list
  unfolding entry_refusal or_else unless_refused
  entry-wide list k h l = rw (widths_wide (widths_for f (get_or list 0 0)) list k (omega (arith, reg.long (get_or list 0 0))) l)

  -- where what the rules allow fits, the rules decide
  pub entry-ruled : (list : List ℕ) → ((f.rules list).number ≡ 0 → (widths_refusal (widths_for f (get_or list 0 0)) list).number ≡ 0)
      → untold (f.rules list) ≡ entry_refusal f list
  unfolding entry_refusal
  entry-ruled list fit =
      ⊎_elim
      (λ e. sym (or_else_go _ _ (fit (same_number e))))
      (λ e. e ∙ sym (only_last _ _ (only_widths (widths_for f (get_or list 0 0)) list) e))
      (only_rules f reg list)

  pub list-none : (list : List ℕ) → list_refusal f list 0 ≡ none
  unfolding list_refusal
  list-none list = refl

  -- a turn of the loop: an entry that is refused ends it, and one that is not hands on
  module _ (list : List ℕ) (i m : ℕ) (a : Refusal) (h : 0 < m) (e : a ≡ entry_refusal f (drop i list)) where
    list-more : or_else (entry_refusal f (drop i list)) (list_refusal f (drop (i + f.pieces) list) (m - 1)) ≡ list_refusal f (drop i list) m
    unfolding list_refusal
    list-more =
        let n : suc (m - 1) ≡ m = omega arith in
        ap (λ (l : List ℕ). or_else (entry_refusal f (drop i list)) (list_refusal f l (m - 1))) (sym (drop-drop f.pieces i list)) ∙ ap (list_refusal f (drop i list)) n

    pub list-stop : (a.number ≡ 0 → ⊥) → a ≡ list_refusal f (drop i list) m
    list-stop ne = ends _ _ e ne ∙ list-more

    pub list_go : a.number ≡ 0 → list_refusal f (drop (i + f.pieces) list) (m - 1) ≡ list_refusal f (drop i list) m
    list_go z = sym (or_else_go _ _ (sym (same_number e) ∙ z)) ∙ list-more

  -- a turn of the loop that puts the entries: what is left to put, put, stays the same
  pub entries_step : (o : List ℕ) (p : ℕ) (list : List ℕ) (i m v : ℕ) → v ≡ get_or (drop i list) 0 0 → 0 < m
      → pack (pack o p (widths_for f v) (drop i list)) (p + total (widths_for f v)) (widths_of f (drop (i + f.pieces) list) (m - 1)) (drop (i + f.pieces) list)
      ≡ pack o p (widths_of f (drop i list) m) (drop i list)
  unfolding widths_of
  entries_step o p list i m v ev h =
      let l : List ℕ = drop i list in
      let ws : List ℕ = widths_for f v in
      let n : suc (m - 1) ≡ m = omega arith in
      ap (λ (u : List ℕ). pack (pack o p ws l) (p + total ws) (widths_of f u (m - 1)) u) (sym (drop-drop f.pieces i list))
      ∙ ap (λ (k : ℕ). pack (pack o p ws l) (p + total ws) (widths_of f (drop f.pieces l) (m - 1)) (drop k l)) (sym (reg.long v))
      ∙ sym (pack-append o p ws (widths_of f (drop f.pieces l) (m - 1)) l)
      ∙ ap (λ (x : ℕ). pack o p (widths_for f x ++ widths_of f (drop f.pieces l) (m - 1)) l) ev
      ∙ ap (λ (k : ℕ). pack o p (widths_of f l k) l) n

-- a write that is not refused
pub record Listed (f : Profile) (most : ℕ) (list : List ℕ) (room : ℕ) : Type 0 where
  pub whole : length list ≡ f.pieces * entries_in f list
  pub few : entries_in f list ≤ most
  pub right : (list_refusal f list (entries_in f list)).number ≡ 0
  pub fits : size_for f list (entries_in f list) ≤ room

pub listed : (f : Profile) (most : ℕ) (list : List ℕ) (room : ℕ) → (write_refusal f most list room).number ≡ 0 → Listed f most list room
unfolding write_refusal
listed f most list room e =
    let e₁ = or_else_then _ _ e in
    let e₂ = or_else_then _ _ e₁ in
    let none_left : length list % f.pieces ≤ 0 = ltb-false _ _ (refuse-none _ _ _ (or_else-first _ _ e)) in
    record {
      whole = omega (arith, none_left, mod-add-div (length list) f.pieces);
      few = ltb-false _ _ (refuse-none _ _ _ (or_else-first _ _ e₁));
      right = or_else-first _ _ e₂;
      fits = ltb-false _ _ (refuse-none _ _ _ (or_else_then _ _ e₂));
    }

-- ---- the whole sub-packet, one write after the other

-- the widths and the values of the header
abbrev pub head_widths : Profile → List ℕ
head_widths f = 4 ∷ 7 ∷ f.count_width ∷ []

abbrev pub head_values : Profile → List ℕ → ℕ → List ℕ
head_values f list n = f.kind ∷ size_for f list n ∷ n ∷ []

-- the last byte is cleared, and then the header and the entries are put, so that what they leave of it is the padding
pub written-steps : (f : Profile) → Regular f → (list o b c d : List ℕ) → Bytes o → length list ≡ f.pieces * entries_in f list
    → b ≡ put_number 1 o (size_for f list (entries_in f list) - 1) 0
    → c ≡ pack b 0 (head_widths f) (head_values f list (entries_in f list))
    → d ≡ pack c (first_at f) (widths_of f list (entries_in f list)) list
    → d ≡ written f list o
unfolding written packet_widths packet_values pack total
written-steps f reg list o b c d ho whole eb ec ed =
    let n : ℕ = entries_in f list in
    let size : ℕ = size_for f list n in
    let w : ℕ = padding_for (bits_for f list n) in
    let body : List ℕ = widths_of f list n in
    let ws : List ℕ = 4 ∷ 7 ∷ f.count_width ∷ body in
    let vs : List ℕ = f.kind ∷ size ∷ n ∷ list in
    let same : length ws ≡ length vs = omega (arith, length-of f reg list n, whole) in
    let bits : total ws ≡ bits_for f list n = omega arith in
    let cleared : pack (put_number 1 o (size - 1) 0) 0 ws vs ≡ put (pack o 0 ws vs) (0 + total ws) w 0 =
    pack_joined (put_number 1 o (size - 1) 0) 0 ws vs (bytes-put o (8 * (size - 1)) 8 0 ho) (omega arith)
    ∙ put_cleared o 0 (total ws) (8 * (size - 1)) 8 w (joined ws vs) ho (omega arith) (omega arith) (omega arith)
    ∙ ap (λ (l : List ℕ). put l (0 + total ws) w 0) (sym (pack_joined o 0 ws vs ho (omega arith))) in
    let tail : pack o 0 (ws ++ (w ∷ [])) (vs ++ (0 ∷ [])) ≡ put (pack o 0 ws vs) (0 + total ws) w 0 =
    pack-append o 0 ws (w ∷ []) (vs ++ (0 ∷ []))
    ∙ ap₂ (λ (x y : List ℕ). pack x (0 + total ws) (w ∷ []) y) (pack_extra o 0 ws vs (0 ∷ []) same) (drop_at vs (0 ∷ []) (length ws) (sym same)) in
    ed
    ∙ ap (λ (x : List ℕ). pack x (first_at f) body list) ec
    ∙ ap (λ (x : List ℕ). pack x 0 ws vs) eb
    ∙ cleared
    ∙ sym tail

-- the two ways that a write ends
module _ (f : Profile) (most : ℕ) (list o : List ℕ) (a : Refusal) (e : a ≡ write_refusal f most list (length o)) where
  pub write_refused : (a.number ≡ 0 → ⊥) → (not_written a ≡ write_answer f most list o) × (o ≡ write_into f most list o)
  unfolding write_answer write_into
  write_refused ne =
      let h : (write_refusal f most list (length o)).number ≡ 0 → ⊥ = λ z. ne (same_number e ∙ z) in
      (ap not_written e ∙ sym (unless-some _ _ _ h), sym (unless-some _ _ _ h))

  pub write_accepted : a.number ≡ 0 → (bytes : ℕ) (after : List ℕ) → bytes ≡ size_for f list (entries_in f list) → after ≡ written f list o
      → (written_with (entries_in f list) bytes ≡ write_answer f most list o) × (after ≡ write_into f most list o)
  unfolding write_answer write_into
  write_accepted z bytes after eb ea =
      let h : (write_refusal f most list (length o)).number ≡ 0 = sym (same_number e) ∙ z in
      (ap (written_with (entries_in f list)) eb ∙ sym (unless-none _ _ _ h), ea ∙ sym (unless-none _ _ _ h))
