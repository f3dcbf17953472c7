-- A text put into an output.
use mathlib.Core.{Bool.cond, List.List, List.◌++◌, Path.◌≡◌}
use Rattle.std.specs.Prelude.{ℕ, ◌+◌, ◌≤◌}
use lib.{Dec.leb, ListN.length, ListN.take, ListN.drop}
use Rattle.lines.specs.{Line.room, Line.IsLineOf, declared.line.Line.Line}

-- a text put at an offset of an output, where all of it fits; otherwise the output as it was
unfoldable pub put_at : List ℕ → ℕ → List ℕ → List ℕ
put_at output at text = cond (leb (at + length text) (length output)) (take at output ++ text ++ drop (at + length text) output) output

-- a line is put as its text, and the text's length is told
abbrev pub IsPut : Line → List ℕ → ℕ → List ℕ → ℕ → Type 0
IsPut line before at after n = (text : List ℕ) → IsLineOf line text → ((n ≡ length text) × (n ≤ room)) × (after ≡ put_at before at text)
