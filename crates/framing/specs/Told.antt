-- What the code's answers tell: which ground each refusal of the code is, and what a judgement tells, which is a refusal or none.
use Rattle.std.specs.Prelude.{Result, Ok, Err}
use Rattle.framing.specs.Refusals.{Refusal, none, too_short, wrong_type, length_too_small, cut_off, length_not_for_count, no_room, too_many_to_move, not_whole_entries, too_many_entries, too_wide, not_allowed, padding_set, distance_stuck}
use Rattle.framing.specs.declared.refusals.Refusal.{Refusal as Ground}
use Rattle.framing.specs.declared.refusals.Refusal.TheVariants.{TooShort, WrongType, LengthTooSmall, CutOff, LengthNotForCount, NoRoom, TooManyToMove, NotWholeEntries, TooManyEntries, TooWide, NotAllowed, PaddingSet, DistanceStuck}

-- the number and the place of each ground
abbrev pub ground_of : Ground → Refusal
ground_of TooShort = too_short
ground_of WrongType = wrong_type
ground_of LengthTooSmall = length_too_small
ground_of CutOff = cut_off
ground_of LengthNotForCount = length_not_for_count
ground_of NoRoom = no_room
ground_of TooManyToMove = too_many_to_move
ground_of NotWholeEntries = not_whole_entries
ground_of TooManyEntries = too_many_entries
ground_of TooWide = too_wide
ground_of (NotAllowed p) = not_allowed p
ground_of (PaddingSet p) = padding_set p
ground_of (DistanceStuck p) = distance_stuck p

-- what a judgement tells
abbrev pub told : {T : Type 0} → Result T Ground → Refusal
told (Ok x) = none
told (Err e) = ground_of e
