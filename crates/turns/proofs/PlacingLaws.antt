-- Laws of a text put at an offset.
use mathlib.Core.Path.{◌≡◌, sym, ap, ap₂, ◌∙◌}
use mathlib.Core.List.{List, [], ◌++◌, append_assoc, append-nil}
use Prim.Native.Nat.{ℕ, ◌+◌, ◌-◌, ◌≤◌, ◌<◌}
use native.Mathlib.Omega.{arith}
use borrow.Author.Tests.{le-leb, lt-leb}
use lib.ListN.{length, take, drop, replicate, length-append, length-drop, take-append-drop}
use lib.Seq.{sets, sets-eq, take-append_seam, take_at, drop_at, drop-drop, length-take-le}
use Rattle.lines.specs.Line.{room, line_of, IsLineOf}
use Rattle.lines.specs.declared.line.Line.{Line}
use Rattle.turns.specs.Placing.{put_at}

module _ (output : List ℕ) (at : ℕ) (text : List ℕ) where
  -- where it fits, it stands there
  pub put-fits : at + length text ≤ length output → put_at output at text ≡ take at output ++ text ++ drop (at + length text) output
  unfolding put_at
  put-fits h = rw (le-leb (at + length text) (length output) h)

  -- and where it does not, the output is as it was
  pub put-none : length output < at + length text → put_at output at text ≡ output
  unfolding put_at
  put-none h = rw (lt-leb (at + length text) (length output) h)

-- the length of a text's line is the text's, and has room
pub line-length : (line : Line) (text : List ℕ) → IsLineOf line text → line.len ≡ length text
unfolding line_of
line-length line text h = ap (λ (l : Line). l.len) h.0

pub line-size : (line : Line) (text : List ℕ) → IsLineOf line text → (line.len ≡ length text) × (line.len ≤ room)
line-size line text h = (line-length line text h, omega (arith, line-length line text h, h.1))

-- so a line's bytes, copied, are its text put
pub line-copied : (output : List ℕ) (at : ℕ) (line : Line) (after text : List ℕ) → at + line.len ≤ length output
    → after ≡ sets output at (take line.len line.bytes) → IsLineOf line text → after ≡ put_at output at text
unfolding line_of
line-copied output at line after text fits copied h =
    let bytes : take line.len line.bytes ≡ text =
    (λ i. take (line-length line text h i) (h.0 i).bytes) ∙ take-append_seam text (replicate (room - length text) 0) in
    let fit : at + length text ≤ length output = omega (arith, line-length line text h) in
    copied ∙ ap (sets output at) bytes ∙ sets-eq text output at fit ∙ sym (put-fits output at text fit)

-- a text, and another behind it, are the two as one text
pub put-put : (output : List ℕ) (at : ℕ) (s t : List ℕ) → at + length (s ++ t) ≤ length output
    → put_at (put_at output at s) (at + length s) t ≡ put_at output at (s ++ t)
put-put output at s t h =
    let n : ℕ = at + length s in
    let p : List ℕ = take at output ++ s in
    let q : List ℕ = drop n output in
    let both : at + length (s ++ t) ≡ n + length t = omega (arith, length-append s t) in
    let front : length p ≡ n = length-append (take at output) s ∙ ap (λ (k : ℕ). k + length s) (length-take-le at output (omega arith)) in
    let behind : drop (n + length t) (p ++ q) ≡ drop (n + length t) output =
    sym (drop-drop (length t) n (p ++ q)) ∙ ap (drop (length t)) (drop_at p q n front) ∙ drop-drop (length t) n output in
    ap (λ (u : List ℕ). put_at u n t) (put-fits output at s (omega arith))
    ∙ put-fits (p ++ q) n t (omega (arith, length-append p q, length-drop n output))
    ∙ (λ i. take_at p q n front i ++ t ++ behind i)
    ∙ ap₂ (λ (u : List ℕ) (k : ℕ). u ++ drop k output) (append_assoc (take at output) s t) (sym both)
    ∙ sym (put-fits output at (s ++ t) h)

-- no text leaves the output as it was
pub put-nothing : (output : List ℕ) (at : ℕ) → at ≤ length output → put_at output at [] ≡ output
put-nothing output at h =
    let none : at + length {A = ℕ} [] ≡ at = omega arith in
    put-fits output at [] (omega arith)
    ∙ ap₂ (λ (u : List ℕ) (k : ℕ). u ++ drop k output) (append-nil (take at output)) none
    ∙ take-append-drop at output
