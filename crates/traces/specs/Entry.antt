-- ONE ENTRY OF A TRACE (document 02, T-12): our mark, the mode before, the 91 flags and the mode after. What follows an entry is not read.
use mathlib.Core.{Bool.Bool, Bool.cond, Bool.not, Bool.◌&&◌, Bool.◌||◌, List.List}
use Rattle.std.specs.Prelude.{ℕ}
use lib.{Dec.eqb, Dec.leb, Dec.ltb, ListN.length, ListN.take, ListN.drop}
use Rattle.numbers.specs.Numbers.{number_at}
use Rattle.mark_bytes.specs.Mark.{is_marked}
use Rattle.transitions.specs.Names.{IS, is_mode}
use Rattle.modes.specs.{Flags.flag_count, Next.refuses, Next.out_of_range, Next.next_step}
use Rattle.traces.specs.declared.entry.Judged.{Judged}

abbrev pub entry_bytes : ℕ  -- so many bytes an entry takes
entry_bytes = 95

abbrev pub mode_before_at : ℕ  -- the mode before stands behind the mark
mode_before_at = 2

abbrev pub flags_at : ℕ  -- the flags begin behind the mode before
flags_at = 3

abbrev pub mode_after_at : ℕ  -- the mode after stands behind the flags
mode_after_at = 94

-- the mode before
abbrev pub mode_before : List ℕ → ℕ
mode_before e = number_at 1 e mode_before_at

-- the flags
unfoldable pub flags_of : List ℕ → List ℕ
flags_of e = take flag_count (drop flags_at e)

-- the mode after
abbrev pub mode_after : List ℕ → ℕ
mode_after e = number_at 1 e mode_after_at

-- do these bytes begin with a whole entry?
unfoldable pub is_entry : List ℕ → Bool
is_entry e = is_marked e && leb entry_bytes (length e)

abbrev pub bad_entry : ℕ  -- the answer's number where they do not
bad_entry = 24

abbrev pub no_mode : ℕ  -- stands for the previous mode where no entry came before
no_mode = 0

-- ground of refusal: the previous mode is neither none nor a mode; the mode step refuses the mode before or a flag; or the mode after is no mode
unfoldable pub is_out_of_range : ℕ → List ℕ → Bool
is_out_of_range previous e = ltb IS previous || (refuses (mode_before e) (flags_of e) || not (is_mode (mode_after e)))

-- the chain: the mode before is the previous mode after; the first entry, which has none before it, may begin with any mode
unfoldable pub follows : ℕ → List ℕ → Bool
follows previous e = eqb previous no_mode || eqb (mode_before e) previous

-- the mode due: what the table and the tie rule give
unfoldable pub due_mode : List ℕ → ℕ
due_mode e = (next_step (mode_before e) (flags_of e)).mode

abbrev pub neither : ℕ  -- neither of an entry's modes is wrong
neither = 0

abbrev pub before : ℕ  -- the mode before is wrong
before = 1

abbrev pub after : ℕ  -- the mode after is wrong
after = 2

-- a refusal tells no mode
abbrev pub refused_with : ℕ → Judged
refused_with n = record { answer = n; wrong = neither; due = 0 }

-- which of the two modes is wrong, and the mode that was due
abbrev pub wrong_at : ℕ → ℕ → Judged
wrong_at which due = record { answer = 0; wrong = which; due = due }

-- a right entry
abbrev pub right : Judged
right = wrong_at neither 0

-- is an entry that was judged so right?
unfoldable pub is_right : Judged → Bool
is_right j = eqb j.answer 0 && eqb j.wrong neither

-- AN ENTRY JUDGED, where `previous` is the mode after of the entry before it, or none
unfoldable pub judged : ℕ → List ℕ → Judged
judged previous e =
    cond (not (is_entry e)) (refused_with bad_entry)
    (cond (is_out_of_range previous e) (refused_with out_of_range)
    (cond (not (follows previous e)) (wrong_at before previous)
    (cond (not (eqb (mode_after e) (due_mode e))) (wrong_at after (due_mode e)) right)))
