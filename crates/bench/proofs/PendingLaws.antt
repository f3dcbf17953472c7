-- Laws of what is pending.
use mathlib.Core.Path.{◌≡◌, ap, ◌∙◌}
use mathlib.Core.List.{List, ◌++◌}
use Prim.Native.Nat.{ℕ, ◌+◌, ◌≤◌}
use native.Mathlib.Omega.{arith}
use lib.ListN.{length, take, drop, length-append}
use lib.Seq.{take_at, length-take-le}
use Rattle.turns.specs.Placing.{put_at}
use Rattle.turns.proofs.PlacingLaws.{put-fits}

-- a text that is put behind what is pending stands whole behind it
pub text-put : (output : List ℕ) (filled : ℕ) (text : List ℕ) → filled + length text ≤ length output
    → take (filled + length text) (put_at output filled text) ≡ take filled output ++ text
text-put output filled text fits =
    ap (take (filled + length text)) (put-fits output filled text fits)
    ∙ take_at (take filled output ++ text) (drop (filled + length text) output) (filled + length text)
    (length-append (take filled output) text ∙ ap (λ (n : ℕ). n + length text) (length-take-le filled output (omega arith)))
