-- A line in an array that has room for the longest.
use mathlib.Core.{Bool.cond, List.List, List.[], List.◌∷◌, List.◌++◌, Path.◌≡◌}
use Rattle.std.specs.Prelude.{ℕ, ◌+◌, ◌-◌, ◌≤◌}
use lib.{Dec.ltb, ListN.length, ListN.replicate, ListN.set}
use Rattle.lines.specs.declared.line.Line.{Line}

abbrev pub room : ℕ  -- the bytes of the array: 20 digits, 5 times a space and 10 digits, and the newline take 76
room = 80

-- a text that has room as a line: the text, zeros behind it, and its length
unfoldable pub line_of : List ℕ → Line
line_of text = record { bytes = text ++ replicate (room - length text) 0; len = length text }

-- a line is that of a text, which has room
abbrev pub IsLineOf : Line → List ℕ → Type 0
IsLineOf line text = (line ≡ line_of text) × (length text ≤ room)

-- a line with a byte behind it; where there is no room, the line as it was
unfoldable pub with_byte : Line → ℕ → Line
with_byte line b =
    cond (ltb line.len room) (record { bytes = set line.bytes line.len b; len = line.len + 1 }) line

-- a line with a text behind it, byte by byte
unfoldable pub with_text : Line → List ℕ → Line
with_text line [] = line
with_text line (b ∷ text) = with_text (with_byte line b) text
