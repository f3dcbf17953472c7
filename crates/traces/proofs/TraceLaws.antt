-- Laws of a whole trace: its first entry, and what lies behind it.
use mathlib.Core.Path.{◌≡◌, refl, sym, ap, ap₂, ◌∙◌}
use mathlib.Core.Bool.{true, false}
use mathlib.Core.List.{List, [], ◌∷◌, ◌++◌, append-nil}
use mathlib.Core.Logic.{⊎_elim}
use Prim.Native.Nat.{ℕ, zero, suc, ◌+◌, ◌≤◌, ◌<◌, min}
use native.Mathlib.Omega.{arith}
use lib.ListN.{length, take, drop, length-drop, length-append, drop_of_length-le}
use lib.Seq.{take_all, take-append_seam, drop-append_seam}
use Rattle.numbers.proofs.Logic.{lt_or_le}
use Rattle.traces.specs.Entry.{entry_bytes, mode_after, no_mode, is_right, judged}
use Rattle.traces.specs.Trace.{first_entry, entries_in, entries_of, yes, told_at, walked, checked}

-- a bound that is large enough does not count
enough : (n m : ℕ) (s : List ℕ) → length s ≤ n → length s ≤ m → entries_in n s ≡ entries_in m s
unfolding entries_in
enough zero zero s h l = refl
enough zero (suc m) [] h l = refl
enough zero (suc m) (b ∷ more) h l = absurd (omega arith)
enough (suc n) zero [] h l = refl
enough (suc n) zero (b ∷ more) h l = absurd (omega arith)
enough (suc n) (suc m) [] h l = refl
enough (suc n) (suc m) (b ∷ more) h l =
    ap (λ (es : List (List ℕ)). first_entry (b ∷ more) ∷ es)
    (enough n m (drop entry_bytes (b ∷ more)) (omega (arith, length-drop entry_bytes (b ∷ more))) (omega (arith, length-drop entry_bytes (b ∷ more))))

entries_none : (s : List ℕ) → length s ≡ 0 → entries_of s ≡ []
unfolding entries_of entries_in
entries_none [] e = refl
entries_none (b ∷ more) e = absurd (omega arith)

entries_next : (s : List ℕ) → 0 < length s → entries_of s ≡ first_entry s ∷ entries_of (drop entry_bytes s)
unfolding entries_of entries_in
entries_next [] h = absurd (omega arith)
entries_next (b ∷ more) h =
    ap (λ (es : List (List ℕ)). first_entry (b ∷ more) ∷ es)
    (enough (length more) (length (drop entry_bytes (b ∷ more))) (drop entry_bytes (b ∷ more)) (omega (arith, length-drop entry_bytes (b ∷ more))) (omega arith))

-- ---- the walk, by the first entry

module _ (n previous : ℕ) (s : List ℕ) where
  pub walked_end : length s ≡ 0 → yes ≡ walked n previous (entries_of s)
  unfolding walked
  walked_end z = rw (entries_none s z)

  module _ (some : 0 < length s) where
    pub walked-told : is_right (judged previous (first_entry s)) ≡ false → told_at n (judged previous (first_entry s)) ≡ walked n previous (entries_of s)
    unfolding walked
    walked-told e = rw (entries_next s some) (rw e)

    pub walked_on : is_right (judged previous (first_entry s)) ≡ true
        → walked n previous (entries_of s) ≡ walked (n + 1) (mode_after (first_entry s)) (entries_of (drop entry_bytes s))
    unfolding walked
    walked_on e = rw (entries_next s some) (rw e)

-- ---- the loop: entries that were right are behind it, so many, and what is left decides

pub record Reached (s : List ℕ) (behind previous : ℕ) (left : List ℕ) : Type 0 where
  pub so_far : checked s ≡ walked (behind + 1) previous (entries_of left)

pub reached_first : (s : List ℕ) → Reached s 0 no_mode s
unfolding checked
reached_first s = record { so_far = refl }

nothing : (l : List ℕ) → length l ≡ 0 → l ≡ []
nothing [] h = refl
nothing (b ∷ more) h = absurd (omega arith)

module _ {s : List ℕ} {behind previous : ℕ} {left : List ℕ} (r : Reached s behind previous left) where
  pub reached_end : length left ≡ 0 → yes ≡ checked s
  reached_end h = walked_end (behind + 1) previous left h ∙ sym r.so_far

  -- an entry is cut off
  module _ (entry more : List ℕ) (cut : left ≡ entry ++ more) (long : length entry ≡ min entry_bytes (length left)) (some : 0 < length left) where
    short : length left < entry_bytes → more ≡ []
    short h = nothing more (omega (arith, ap length cut, length-append entry more))

    is-first : entry ≡ first_entry left
    is-first =
        ⊎_elim (λ h. sym (take_all entry_bytes left (omega arith) ∙ cut ∙ rw (short h) (append-nil entry)))
        (λ h.
        let whole : entry_bytes ≡ length entry = omega arith in
        sym (ap (take entry_bytes) cut ∙ ap (λ n. take n (entry ++ more)) whole ∙ take-append_seam entry more))
        (lt_or_le (length left) entry_bytes)

    is-rest : more ≡ drop entry_bytes left
    is-rest =
        ⊎_elim (λ h. short h ∙ sym (drop_of_length-le left {i = entry_bytes} (omega arith)))
        (λ h.
        let whole : entry_bytes ≡ length entry = omega arith in
        sym (ap (drop entry_bytes) cut ∙ ap (λ n. drop n (entry ++ more)) whole ∙ drop-append_seam entry more))
        (lt_or_le (length left) entry_bytes)

    pub reached_told : is_right (judged previous entry) ≡ false → told_at (behind + 1) (judged previous entry) ≡ checked s
    reached_told w =
        ap (λ (e : List ℕ). told_at (behind + 1) (judged previous e)) is-first
        ∙ walked-told (behind + 1) previous left some (rw is-first at w)
        ∙ sym r.so_far

    pub reached_next : is_right (judged previous entry) ≡ true → Reached s (behind + 1) (mode_after entry) more
    reached_next w = record {
      so_far =
          r.so_far
          ∙ walked_on (behind + 1) previous left some (rw is-first at w)
          ∙ ap₂ (λ (e l : List ℕ). walked (behind + 1 + 1) (mode_after e) (entries_of l)) (sym is-first) (sym is-rest);
    }
