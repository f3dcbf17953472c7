-- The modes by their numbers (document 01, "Modes").
use Rattle.std.specs.Prelude.{Bool, ◌&&◌, ℕ, leb}

abbrev pub SB : ℕ  -- standby
SB = 1

abbrev pub SR : ℕ  -- staff responsible
SR = 2

abbrev pub LS : ℕ  -- limited supervision
LS = 3

abbrev pub FS : ℕ  -- full supervision
FS = 4

abbrev pub OV : ℕ  -- override
OV = 5

abbrev pub OS : ℕ  -- on sight
OS = 6

abbrev pub TR : ℕ  -- trip
TR = 7

abbrev pub PT : ℕ  -- post trip
PT = 8

abbrev pub RV : ℕ  -- reverse
RV = 9

abbrev pub SH : ℕ  -- shunt
SH = 10

abbrev pub NL : ℕ  -- non leading
NL = 11

abbrev pub SF : ℕ  -- system failure
SF = 12

abbrev pub IS : ℕ  -- isolation
IS = 13

-- is it the number of a mode?
unfoldable pub is_mode : ℕ → Bool
is_mode m = leb SB m && leb m IS
