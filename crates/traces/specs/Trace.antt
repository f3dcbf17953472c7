-- A WHOLE TRACE (document 02, T-12): its entries one after another.
use mathlib.Core.{Bool.cond, List.List, List.[], List.◌∷◌}
use Rattle.std.specs.Prelude.{ℕ, zero, suc, ◌+◌, length, take, drop}
use Rattle.traces.specs.Entry.{entry_bytes, mode_after, no_mode, is_right, judged}
use Rattle.traces.specs.declared.entry.Judged.{Judged}
use Rattle.traces.specs.declared.walk.Checked.{Checked}

-- the bytes of the first entry of a trace; fewer where it is cut
abbrev pub first_entry : List ℕ → List ℕ
first_entry s = take entry_bytes s

-- the entries of a trace. The bound is on their number: as many as there are bytes is always enough
unfoldable pub entries_in : ℕ → List ℕ → List (List ℕ)
entries_in zero s = []
entries_in (suc most) [] = []
entries_in (suc most) (b ∷ more) = first_entry (b ∷ more) ∷ entries_in most (drop entry_bytes (b ∷ more))

-- all of them
unfoldable pub entries_of : List ℕ → List (List ℕ)
entries_of s = entries_in (length s) s

-- a trace that is right
abbrev pub yes : Checked
yes = record { answer = 0; entry = 0; due = 0 }

-- the first entry that is not: its number, and the refusal or the mode due
abbrev pub told_at : ℕ → Judged → Checked
told_at n j = record { answer = j.answer; entry = n; due = j.due }

-- the entries judged one after another, up to the first that is not right. The first of them has this number, and `previous` is the mode after of the
-- entry before it, or none
unfoldable pub walked : ℕ → ℕ → List (List ℕ) → Checked
walked number previous [] = yes
walked number previous (e ∷ more) = cond (is_right (judged previous e)) (walked (number + 1) (mode_after e) more) (told_at number (judged previous e))

-- A TRACE CHECKED: its entries are numbered from 1, and before the first there is none
unfoldable pub checked : List ℕ → Checked
checked s = walked 1 no_mode (entries_of s)
