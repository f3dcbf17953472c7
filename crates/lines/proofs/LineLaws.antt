-- Laws of lines: a text behind a line, and what a line written from nothing is.
use mathlib.Core.Bool.{Bool, true, false, cond}
use mathlib.Core.Path.{◌≡◌, refl, sym, ap, ap₂, ◌∙◌}
use mathlib.Core.List.{List, [], ◌∷◌, ◌++◌, append_assoc, append-nil}
use Prim.Native.Nat.{ℕ, suc, ◌+◌, ◌-◌, ◌≤◌, ◌<◌}
use native.Mathlib.Omega.{arith}
use native.Mathlib.Numerals.{add-one}
use borrow.Author.Tests.{lt-ltb}
use lib.Dec.{ltb}
use lib.ListN.{length, get_or, drop, replicate, set, length-set, length-append, drop_of_length-le}
use lib.Seq.{set-append_seam, drop-cons}
use Rattle.lines.specs.declared.line.Line.{Line}
use Rattle.lines.specs.Line.{room, line_of, with_byte, with_text}

line : List ℕ → ℕ → Line
line bytes len = record { bytes = bytes; len = len }

-- a text behind a line, and another behind that, are the two as one text
pub text-append : (l : Line) (s t : List ℕ) → with_text l (s ++ t) ≡ with_text (with_text l s) t
unfolding with_text
text-append l [] t = refl
text-append l (b ∷ s) t = text-append (with_byte l b) s t

pub text-byte : (l : Line) (b : ℕ) → with_byte l b ≡ with_text l (b ∷ [])
unfolding with_text
text-byte l b = refl

-- the array keeps its bytes
byte-room : (l : Line) (b : ℕ) → length (with_byte l b).bytes ≡ length l.bytes
unfolding with_byte
byte-room l b = of (ltb l.len room)
  where
    of : (c : Bool) → length (cond c (record { bytes = set l.bytes l.len b; len = l.len + 1 }) l).bytes ≡ length l.bytes
    of true = length-set l.bytes l.len b
    of false = refl

pub text-room : (l : Line) (t : List ℕ) → length (with_text l t).bytes ≡ length l.bytes
unfolding with_text
text-room l [] = refl
text-room l (b ∷ t) = text-room (with_byte l b) t ∙ byte-room l b

-- what is left of a text behind a line, by its next byte
pub text-next : (l : Line) (t : List ℕ) (i : ℕ) → i < length t → with_text l (drop i t) ≡ with_text (with_byte l (get_or t i 0)) (drop (i + 1) t)
unfolding with_text
text-next l t i h = ap (with_text l) (drop-cons t i 0 h ∙ ap (λ (k : ℕ). get_or t i 0 ∷ drop k t) (sym (add-one i)))

-- and nothing, where the text is over
pub text-end : (l : Line) (t : List ℕ) (i : ℕ) → length t ≤ i → with_text l (drop i t) ≡ l
unfolding with_text
text-end l t i h = ap (with_text l) (drop_of_length-le t h)

-- a byte behind a text that has room for it
byte-written : (s : List ℕ) (b : ℕ) → length s < room → with_byte (line_of s) b ≡ line_of (s ++ (b ∷ []))
unfolding line_of with_byte line
byte-written s b h =
    let m : ℕ = room - suc (length s) in
    let behind : room - length s ≡ suc m = omega arith in
    let longer : length (s ++ (b ∷ [])) ≡ length s + 1 = length-append s (b ∷ []) in
    let left : room - length (s ++ (b ∷ [])) ≡ m = omega arith in
    let bytes : set (s ++ replicate (room - length s) 0) (length s) b ≡ (s ++ (b ∷ [])) ++ replicate (room - length (s ++ (b ∷ []))) 0 =
    rw (behind, left, append_assoc) (set-append_seam s 0 (replicate m 0) b) in
    rw (lt-ltb (length s) room h) (ap₂ line bytes (sym longer))

-- a text behind a text, where there is room for both
text-written : (s t : List ℕ) → length s + length t ≤ room → with_text (line_of s) t ≡ line_of (s ++ t)
unfolding with_text
text-written s [] h = ap line_of (sym (append-nil s))
text-written s (b ∷ t) h =
    rw (byte-written s b (omega arith))
    (text-written (s ++ (b ∷ [])) t (rw length-append (omega arith)) ∙ ap line_of (append_assoc s (b ∷ []) t))

-- a text written from nothing
pub written : (t : List ℕ) → length t ≤ room → with_text (line_of []) t ≡ line_of t
written t h = text-written [] t (omega arith)
