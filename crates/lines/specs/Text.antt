-- The lines of a listing as text, each with its newline.
use Rattle.std.specs.Prelude.{List, [], ◌∷◌, ◌++◌, ℕ}
use Rattle.lines.specs.Decimal.{decimal}

abbrev pub space : ℕ
space = 32

abbrev pub newline : ℕ
newline = 10

-- a number behind what stands before it on the line
unfoldable pub next : ℕ → List ℕ
next n = space ∷ decimal n

-- the first line: "run"
unfoldable pub run_line : List ℕ
run_line = 114 ∷ 117 ∷ 110 ∷ newline ∷ []

-- the line of a record: its number, its kind, the answer and three numbers
unfoldable pub record_line : ℕ → ℕ → ℕ → ℕ → ℕ → ℕ → List ℕ
record_line number kind answer first second third =
    decimal number ++ next kind ++ next answer ++ next first ++ next second ++ next third ++ (newline ∷ [])

-- the last line: "end", the record lines and the accepted records
unfoldable pub end_line : ℕ → ℕ → List ℕ
end_line lines accepted = (101 ∷ 110 ∷ 100 ∷ []) ++ next lines ++ next accepted ++ (newline ∷ [])
