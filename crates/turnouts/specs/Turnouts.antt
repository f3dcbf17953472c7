-- Turnouts (radio annex, turnout speed profile; document 02, T-01): their fields inside a sub-packet, their bytes outside it, and what is allowed.
use Rattle.std.specs.Prelude.{ℕ, List, [], ◌∷◌, Bool, cond, not, ◌&&◌, ◌||◌}
use lib.{ListN.get_or, Dec.leb, Dec.eqb}
use Rattle.framing.specs.Refusals.{not_allowed, refuse}
use Rattle.framing.specs.Refusals.{Refusal}
use Rattle.profiles.specs.Profiles.{Profile}

abbrev pub turnout_type : ℕ  -- the type of a turnout sub-packet
turnout_type = 4

abbrev pub most_turnouts : ℕ  -- the most turnouts of a sub-packet
most_turnouts = 3

abbrev pub turnout_bytes : ℕ  -- the bytes of a turnout outside a sub-packet: speed 1, distance 2, release distance 2
turnout_bytes = 5

abbrev pub speed_bits : ℕ  -- the width of a speed
speed_bits = 5

-- the codes of a speed: 0 is not used, 1 to 18 are 5 to 90 km/h in steps of 5, 19 to 30 are reserved, 31 is unrestricted
abbrev pub last_restricted : ℕ
last_restricted = 18

abbrev pub unrestricted : ℕ
unrestricted = 31

unfoldable pub is_restricted : ℕ → Bool
is_restricted speed = leb 1 speed && leb speed last_restricted

-- the pieces behind the speed: distance, 15 bits (7, and 8), and release distance, 12 (4, and 8). Outside the sub-packet each piece is a byte
abbrev pub distances : List ℕ
distances = 7 ∷ 8 ∷ 4 ∷ 8 ∷ []

-- the same where neither is there
abbrev pub absent : List ℕ
absent = 0 ∷ 0 ∷ 0 ∷ 0 ∷ []

-- only a restricted speed has them
unfoldable pub behind_speed : ℕ → List ℕ
behind_speed speed = cond (is_restricted speed) distances absent

-- the greatest distance and release distance that they have room for; where they are not there, nothing but 0
unfoldable pub last_distance : ℕ → ℕ
last_distance speed = cond (is_restricted speed) 32767 0

unfoldable pub last_release : ℕ → ℕ
last_release speed = cond (is_restricted speed) 4095 0

-- what is allowed: a restricted speed, or unrestricted
unfoldable pub is_allowed : ℕ → Bool
is_allowed speed = is_restricted speed || eqb speed unrestricted

-- the rules on a turnout's 5 bytes. At fault is the speed, with which a turnout starts
abbrev pub turnout_refusal : List ℕ → Refusal
turnout_refusal turnout = refuse (not (is_allowed (get_or turnout 0 0))) (not_allowed 0)

-- turnouts as a profile: the count has 2 bits, and the speed tells which pieces a turnout has
abbrev pub turnout_profile : Profile
turnout_profile = record {
  kind = turnout_type;
  count_width = 2;
  pieces = turnout_bytes;
  first = speed_bits;
  others = behind_speed;
  rules = turnout_refusal;
}
