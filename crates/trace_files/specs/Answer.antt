-- The line that tells a trace's answer.
use mathlib.Core.{Bool.cond, List.List, List.[], List.◌∷◌, List.◌++◌}
use Rattle.std.specs.Prelude.{ℕ, ◌+◌, ◌-◌}
use lib.{Dec.eqb, ListN.get_or}
use Rattle.transitions.specs.Names.{is_mode}
use Rattle.traces.specs.Entry.{before, mode_before, mode_after, is_right}
use Rattle.lines.specs.{Words.words, Decimal.decimal, Line.line_of, Line.with_text, declared.line.Line.Line}
use Rattle.trace_files.specs.declared.files.File.{File}

-- the names of the modes, from 1 on
unfoldable pub mode_names : List (List ℕ)
mode_names =
    words "SB" ∷ words "SR" ∷ words "LS" ∷ words "FS" ∷ words "OV" ∷ words "OS" ∷ words "TR" ∷ words "PT" ∷ words "RV" ∷ words "SH" ∷ words "NL" ∷ words "SF"
    ∷ words "IS" ∷ []

-- a mode's name; what is no mode has none
unfoldable pub name_of : ℕ → List ℕ
name_of m = cond (is_mode m) (get_or mode_names (m - 1) []) []

-- a mode's number, and its name behind it
unfoldable pub mode_text : ℕ → List ℕ
mode_text m = decimal m ++ words " (" ++ name_of m ++ words ")"

-- a right trace: its entries
unfoldable pub yes_text : ℕ → List ℕ
yes_text entries = words "yes " ++ decimal entries ++ words "\n"

-- which of an entry's modes is wrong
unfoldable pub which_text : ℕ → List ℕ
which_text which = cond (eqb which before) (words ": mode before: due ") (words ": mode after: due ")

-- a wrong entry: which of its modes is wrong, the mode due and the one that stands there
unfoldable pub wrong_text : ℕ → ℕ → ℕ → ℕ → List ℕ
wrong_text number which due found =
    words "entry " ++ decimal number ++ which_text which ++ mode_text due ++ words ", not " ++ mode_text found ++ words "\n"

-- an entry that is refused: the beginning of its line
unfoldable pub refused_text : ℕ → ℕ → List ℕ
refused_text number answer = words "entry " ++ decimal number ++ words " is refused: answer " ++ decimal answer ++ words ": "

-- a line with this text
abbrev pub written : List ℕ → Line
written text = with_text (line_of []) text

-- the mode that stands in an entry in place of the one due
unfoldable pub found_in : ℕ → List ℕ → ℕ
found_in which first = cond (eqb which before) (mode_before first) (mode_after first)

-- THE LINE of a trace that is over, where `first` begins with the entry that is not right; behind a refusal's comes why, in words
unfoldable pub answer_text : File → List ℕ → List ℕ
answer_text file first =
    cond (is_right file.judged) (yes_text file.entries)
    (cond (eqb file.judged.answer 0)
    (wrong_text (file.entries + 1) file.judged.wrong file.judged.due (found_in file.judged.wrong first))
    (refused_text (file.entries + 1) file.judged.answer))
