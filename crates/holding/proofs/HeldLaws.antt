-- Laws of what is held.
use mathlib.Core.Path.{◌≡◌, refl, sym, ap, ap₂, ◌∙◌}
use mathlib.Core.Bool.{Bool, true, false, ◌||◌}
use mathlib.Core.List.{List, [], ◌∷◌, ◌++◌, append-nil}
use Prim.Native.Nat.{ℕ, zero, suc, ◌+◌, ◌-◌, ◌≤◌, ◌<◌, min}
use native.Mathlib.Decide.{dec_lt}
use native.Mathlib.Omega.{arith}
use lib.Dec.{eqb}
use lib.ListN.{length, take, drop, length-append, length-drop, drop_of_length-le, take-append-drop}
use lib.Seq.{take_all, take-take, length-take-le, take-nil, drop-drop, take-append-add, drop-length}
use Rattle.std.proofs.KnownBytes.{Consumes-nil}
use borrow.Rule.Slice.PartMut.{put_mid}
use borrow.Author.Tests.{ltb-false, eqb-true, eqb-false}
use Rattle.std.proofs.lemmas.List.{drop-append-le, take-append-le}
use Rattle.std.proofs.lemmas.List.Edits.{take-paste}
use Rattle.std.specs.List.{copy_within}
use Rattle.holding.specs.declared.Held.{Held}
use Rattle.std.specs.Prelude.{Option, Result, Ok, Err, IfOk, OnErr}
use Rattle.std.specs.Io.{ReadsAtMost}
use Rattle.std.specs.Io.KnownBytes.{Consumes, ReadConsumes}
use Rattle.holding.specs.Held.{stretch, held_bytes, last_held, behind_by, is_end, given_by, IsReady, ReadOn}

-- ---- a stretch whose offsets are kept within the buffer

empty_past : (b : List ℕ) (at end : ℕ) → end ≤ at → stretch b at end ≡ []
unfolding stretch
empty_past b at end h = let e : end - at ≡ 0 = omega arith in rw e

-- the bytes up to an offset past the end are those up to the end
stretch_long : (b : List ℕ) (at end : ℕ) → length b ≤ end → stretch b at end ≡ stretch b at (length b)
unfolding stretch
stretch_long b at end h =
    take_all (end - at) (drop at b) (rw length-drop (omega arith))
    ∙ sym (take_all (length b - at) (drop at b) (rw length-drop (omega arith)))

-- and from an offset past the end there are none
stretch_past : (b : List ℕ) (at end : ℕ) → length b ≤ at → stretch b at end ≡ []
unfolding stretch
stretch_past b at end h = rw (drop_of_length-le b h) (take-nil (end - at))

pub stretch_within : (b : List ℕ) (at end a e : ℕ) → e ≡ min end (length b) → a ≡ min at e → stretch b a e ≡ stretch b at end
stretch_within b at end a e he ha = of (dec_lt at e) (dec_lt end (length b))
  where
    of : Dec (at < e) → Dec (end < length b) → stretch b a e ≡ stretch b at end
    of (yes l) (yes m) =
        let p : a ≡ at = omega arith in
        let q : e ≡ end = omega arith in
        ap₂ (stretch b) p q
    of (yes l) (no m) =
        let p : a ≡ at = omega arith in
        let q : e ≡ length b = omega arith in
        ap₂ (stretch b) p q ∙ sym (stretch_long b at end (omega arith))
    of (no l) (yes m) = empty_past b a e (omega arith) ∙ sym (empty_past b at end (omega arith))
    of (no l) (no m) = empty_past b a e (omega arith) ∙ sym (stretch_past b at end (omega arith))

stretch-length : (b : List ℕ) (a e : ℕ) → e ≤ length b → length (stretch b a e) ≡ e - a
unfolding stretch
stretch-length b a e h = length-take-le (e - a) (drop a b) (rw length-drop (omega arith))

-- so it has as many bytes as lie between those offsets
pub within_enough : (b : List ℕ) (at end a e n : ℕ) → e ≡ min end (length b) → a ≡ min at e → n ≤ e - a → n ≤ length (stretch b at end)
within_enough b at end a e n he ha h = rw (← stretch_within b at end a e he ha, stretch-length b a e (omega arith)) h

-- ---- behind the bytes that were used

drop-take : (m n : ℕ) (l : List ℕ) → drop m (take n l) ≡ take (n - m) (drop m l)
drop-take zero n l = let e : n - 0 ≡ n = omega arith in rw e
drop-take (suc m) zero l = let e : 0 - suc m ≡ 0 = omega arith in rw e
drop-take (suc m) (suc n) [] = sym (take-nil (suc n - suc m))
drop-take (suc m) (suc n) (x ∷ l) = let e : suc n - suc m ≡ n - m = omega arith in rw e (drop-take m n l)

stretch-drop : (b : List ℕ) (at end used : ℕ) → drop used (stretch b at end) ≡ stretch b (at + used) end
unfolding stretch
stretch-drop b at end used =
    let e : end - at - used ≡ end - (at + used) = omega arith in
    drop-take used (end - at) (drop at b) ∙ ap₂ take e (drop-drop used at b)

-- the offset behind those that were used is kept within what is held
pub behind-by : (h : Held) (used m k : ℕ) → m ≡ min h.at h.end → k ≡ min used (h.end - m)
    → record { at = h.end - (h.end - m) + k; end = h.end; ended = h.ended; failed = h.failed } ≡ behind_by used h
behind-by h used m k hm hk =
    let e : h.end - (h.end - m) + k ≡ min (h.at + used) h.end = omega arith in
    λ i. record { at = e i; end = h.end; ended = h.ended; failed = h.failed }

-- so the bytes behind those that were used are held
pub behind-held : (b : List ℕ) (h : Held) (used : ℕ) → held_bytes b (behind_by used h) ≡ drop used (held_bytes b h)
behind-held b h used = of (dec_lt (h.at + used) h.end) ∙ sym (stretch-drop b h.at h.end used)
  where
    of : Dec (h.at + used < h.end) → stretch b (min (h.at + used) h.end) h.end ≡ stretch b (h.at + used) h.end
    of (yes l) = ap (λ (n : ℕ). stretch b n h.end) (omega arith)
    of (no l) = empty_past b (min (h.at + used) h.end) h.end (omega arith) ∙ sym (empty_past b (h.at + used) h.end (omega arith))

-- ---- read on behind what was moved

-- the bytes of a stretch that is moved to the front stand there
moved-to-front : (b : List ℕ) (a e : ℕ) → e ≤ length b → take (e - a) (copy_within b a e 0) ≡ take (e - a) (drop a b)
moved-to-front b a e h =
    let n : e - a ≡ 0 + (e - a) = omega arith in
    ap (λ (k : ℕ). take k (copy_within b a e 0)) n ∙ take-paste b 0 (drop a b) (e - a) (omega arith) (rw length-drop (omega arith))

-- b is the buffer before its bytes are moved, t then, and u when read on; a and e are the offsets kept within the buffer
module _ (longest : ℕ) (b t u : List ℕ) (h r : Held) (a e : ℕ) (he : e ≡ min h.end (length b)) (ha : a ≡ min h.at e) (more-come : h.ended ≡ false)
    (moved : t ≡ copy_within b a e 0) (on : ReadOn longest (e - a) t u r) where
  held_all : held_bytes u r ≡ take r.end u
  unfolding stretch
  held_all = let z : r.end - 0 ≡ r.end = omega arith in rw (on.front, z)

  first : take (e - a) u ≡ held_bytes b h
  unfolding stretch
  first = on.same ∙ ap (take (e - a)) moved ∙ moved-to-front b a e (omega arith) ∙ stretch_within b h.at h.end a e he ha

  -- what is held behind what was held before is what was read
  pub read-taken : drop (length (held_bytes b h)) (held_bytes u r) ≡ drop (e - a) (take r.end u)
  read-taken =
      let size : length (held_bytes b h) ≡ e - a = ap length (sym (stretch_within b h.at h.end a e he ha)) ∙ stretch-length b a e (omega arith) in
      rw (size, held_all)

  pub read-ready : IsReady longest b h u r
  read-ready =
      let size : length (take r.end u) ≡ r.end = length-take-le r.end u on.inside in record {
        more = drop (e - a) (take r.end u);
        kept = held_all ∙ sym (take-append-drop (e - a) (take r.end u))
            ∙ ap (λ (s : List ℕ). s ++ drop (e - a) (take r.end u)) (take-take (e - a) r.end u on.more ∙ first);
        closed = λ c. let z : ◌≡◌ {A = ℕ} 0 1 = cc (c, more-come) in absurd (omega arith);
        enough = λ n. rw held_all (omega (arith, size, ltb-false r.end longest (sym on.ended ∙ n)));
        failed = λ f n. on.failed n;
      }

-- a buffer keeps its length where a read puts bytes behind the first e, as many as stood there
pub length-put_mid : (e : ℕ) (xs ys : List ℕ) → e ≤ length xs → length ys ≡ length (take (length xs - e) (drop e xs))
    → (length ys ≡ length xs - e) × (length (put_mid e (length xs - e) xs ys) ≡ length xs)
length-put_mid e xs ys inside size =
    let k = length xs - e in
    let behind : length (drop e xs) ≡ k = length-drop e xs in
    let most : length ys ≡ k = size ∙ length-take-le k (drop e xs) (omega (arith, behind)) in (
      most,
      omega (
        arith,
        length-append (take e xs) (ys ++ drop k (drop e xs)),
        length-take-le e xs inside,
        most,
        length-append ys (drop k (drop e xs)),
        length-drop k (drop e xs),
        behind,
      ),
    )

-- what a read gave behind the first e bytes of a buffer stands behind what was read before
pub given-behind : (kept e n k : ℕ) (xs ys : List ℕ) → kept ≤ e → e ≤ length xs → n ≤ length ys
    → drop kept (take (e + n) (put_mid e k xs ys)) ≡ drop kept (take e xs) ++ take n ys
given-behind kept e n k xs ys low inside most =
    let front : length (take e xs) ≡ e = length-take-le e xs inside in
    let rest : List ℕ = ys ++ drop k (drop e xs) in
    ap (λ (m : ℕ). drop kept (take (m + n) (take e xs ++ rest))) (sym front)
    ∙ ap (drop kept) (take-append-add (take e xs) rest n)
    ∙ drop-append-le kept (take e xs) (take n rest) (rw front low)
    ∙ ap (λ (l : List ℕ). drop kept (take e xs) ++ l) (take-append-le n ys (drop k (drop e xs)) most)

-- so many bytes were given by a read that gave so many, and no other
pub given_count : {E : Type 0} (r : Result ℕ E) (count end : ℕ) (old new : Option (List ℕ)) (buf : List ℕ)
    → IfOk r (λ n. ◌≡◌ {A = Result ℕ Held} (Ok count) (given_by n end)) → OnErr r (◌≡◌ {A = Result ℕ Held} (Ok count) (Err (last_held end true)))
    → ReadsAtMost r buf → ReadConsumes old new r buf → (count ≤ length buf) × Consumes old new (take count buf)
given_count (Ok zero) count end old new buf given failed most read = let z : ◌≡◌ {A = ℕ} 0 1 = cc (given) in absurd (omega arith)
given_count (Ok (suc n)) count end old new buf given failed most read =
    let e : count ≡ suc n = cc (given) in
    (omega (arith, most, e), rw e read.0)
given_count (Err x) count end old new buf given failed most read = let z : ◌≡◌ {A = ℕ} 0 1 = cc (failed) in absurd (omega arith)

-- where nothing is read, nothing is taken
pub stays-taken : (known : Option (List ℕ)) (b : List ℕ) (h : Held) → Consumes known known (drop (length (held_bytes b h)) (held_bytes b h))
stays-taken known b h = rw (drop-length (held_bytes b h)) (Consumes-nil known)

-- what is held stays where nothing is read
pub stays-ready : (longest : ℕ) (b : List ℕ) (h : Held) → (h.ended ≡ false → longest ≤ length (held_bytes b h)) → IsReady longest b h b h
stays-ready longest b h enough = record {
  more = [];
  kept = sym (append-nil (held_bytes b h));
  closed = λ c. (refl, refl);
  enough = enough;
  failed = λ f n. f;
}

-- ---- whether an item is there

neither : (a b : Bool) → a || b ≡ false → (a ≡ false) × (b ≡ false)
neither true b e = let z : ◌≡◌ {A = ℕ} 0 1 = cc (e) in absurd (omega arith)
neither false b e = (refl, e)

pub not_end : (h : Held) (bytes : List ℕ) → is_end h bytes ≡ false → (h.failed ≡ false) × (length bytes ≡ 0 → ⊥)
unfolding is_end
not_end h bytes e =
    let n = neither h.failed (eqb (length bytes) 0) e in
    (n.0, eqb-false (length bytes) 0 n.1)

pub is-end : (h : Held) (bytes : List ℕ) → is_end h bytes ≡ true → h.failed ≡ false → length bytes ≡ 0
unfolding is_end
is-end h bytes e f = eqb-true _ _ (sym (ap (λ (b : Bool). b || eqb (length bytes) 0) f) ∙ e)

-- where nothing is held, nothing comes either
pub none_left : (longest : ℕ) (bytes rest : List ℕ) (closed : Bool) → 0 < longest → (closed ≡ false → longest ≤ length bytes) → (closed ≡ true → rest ≡ [])
    → length bytes ≡ 0 → length (bytes ++ rest) ≡ 0
none_left longest bytes rest true some enough shut z = omega (arith, length-append bytes rest, ap length (shut refl))
none_left longest bytes rest false some enough shut z = absurd (omega (arith, enough refl))
