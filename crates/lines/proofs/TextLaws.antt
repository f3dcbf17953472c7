-- Laws of a listing's lines: there is room for each, so each is what its parts make when written in turn.
use mathlib.Core.List.{[], ◌∷◌}
use Prim.Native.Nat.{ℕ, ◌^◌, ◌≤◌, ◌<◌}
use native.Mathlib.Omega.{arith}
use lib.ListN.{length, length-append}
use Rattle.lines.specs.Line.{room, line_of, IsLineOf, with_byte, with_text}
use Rattle.lines.specs.Decimal.{decimal}
use Rattle.lines.specs.Text.{newline, next, record_line, end_line}
use Rattle.lines.proofs.DecimalLaws.{decimal-length}
use Rattle.lines.proofs.LineLaws.{text-append, written}

long : (n : ℕ) → n < 2 ^ 64 → length (decimal n) ≤ 20
long n h = decimal-length n 19 (omega arith)

short : (n : ℕ) → n < 2 ^ 32 → length (decimal n) ≤ 10
short n h = decimal-length n 9 (omega arith)

-- the line of a record
module _ (a b c d e f : ℕ) (ha : a < 2 ^ 64) (hb : b < 2 ^ 32) (hc : c < 2 ^ 32) (hd : d < 2 ^ 32) (he : e < 2 ^ 32) (hf : f < 2 ^ 32) where
  record_fits : length (record_line a b c d e f) ≤ room
  unfolding record_line next
  record_fits =
      simp length-append (omega (arith, long a ha, short b hb, short c hc, short d hd, short e he, short f hf))

  pub record_written : IsLineOf
      (with_byte (with_text (with_text (with_text (with_text (with_text (with_text (line_of []) (decimal a)) (next b)) (next c)) (next d)) (next e)) (next f)) newline)
      (record_line a b c d e f)
  unfolding record_line with_text
  record_written = (simp text-append at (written (record_line a b c d e f) record_fits), record_fits)

-- the last line
module _ (a b : ℕ) (ha : a < 2 ^ 64) (hb : b < 2 ^ 64) where
  end_fits : length (end_line a b) ≤ room
  unfolding end_line next
  end_fits = simp length-append (omega (arith, long a ha, long b hb))

  pub end-written : IsLineOf
      (with_byte (with_text (with_text (with_text (line_of []) (101 ∷ 110 ∷ 100 ∷ [])) (next a)) (next b)) newline)
      (end_line a b)
  unfolding end_line with_text
  end-written = (simp text-append at (written (end_line a b) end_fits), end_fits)
