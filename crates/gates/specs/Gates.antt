-- Gates: their fields inside a sub-packet, their bytes outside it, and what is allowed. `distance` is the width of a gate's distance.
use Rattle.std.specs.Prelude.{ℕ, ◌+◌, ◌-◌, ◌*◌, List, [], ◌∷◌, Result, Ok, Err}
use lib.{ListN.get_or, Dec.ltb}
use Rattle.numbers.specs.{Pieces.pack, Numbers.put_number}
use Rattle.framing.specs.Refusals.{Refusal, none, not_allowed, refuse, or_else}
use Rattle.profiles.specs.Profiles.{Profile}

abbrev pub gate_type : ℕ  -- the type of a gate sub-packet
gate_type = 3

abbrev pub distance_width : ℕ  -- the width of the distance in the new form
distance_width = 15

abbrev pub gate_bytes : ℕ  -- the bytes of a gate outside a sub-packet
gate_bytes = 9

-- the pieces of a gate behind the first, which is the high bits of the distance: 8 more of it, number (2 and 8), suffix, manning, class, whistling,
-- whistling type
abbrev pub behind_first : List ℕ
behind_first = 8 ∷ 2 ∷ 8 ∷ 3 ∷ 1 ∷ 3 ∷ 1 ∷ 2 ∷ []

-- all of them. Outside the sub-packet each piece is a byte
unfoldable pub gate_widths : ℕ → List ℕ
gate_widths distance = (distance - 8) ∷ behind_first

-- the bits that a gate takes: 35 with a 15-bit distance
abbrev pub gate_bits : ℕ → ℕ
gate_bits distance = distance + 20

-- the bits of a sub-packet of n gates before its padding
abbrev pub bits_with : ℕ → ℕ → ℕ
bits_with distance n = 16 + gate_bits distance * n

-- an output with the header of a sub-packet of n gates put, which has so many bytes: type, length and count; the last of the bytes is cleared before
unfoldable pub header_put : ℕ → ℕ → List ℕ → List ℕ
header_put bytes n o = pack (put_number 1 o (bytes - 1) 0) 0 (4 ∷ 7 ∷ 5 ∷ []) (gate_type ∷ bytes ∷ n ∷ [])

abbrev pub last_number : ℕ  -- the highest number, suffix, class and whistling type that are allowed
last_number = 1022

abbrev pub last_suffix : ℕ
last_suffix = 6

abbrev pub last_class : ℕ
last_class = 6

abbrev pub last_whistle : ℕ
last_whistle = 2

-- where the fields that are judged start, counted from the gate's first bit: the number behind the distance, the suffix behind its 10 bits, the
-- class behind 3 bits of suffix and 1 of manning, the whistling type behind 3 of class and 1 of whistling
abbrev pub number_at : ℕ → ℕ
number_at distance = distance

abbrev pub suffix_at : ℕ → ℕ
suffix_at distance = distance + 10

abbrev pub class_at : ℕ → ℕ
class_at distance = distance + 14

abbrev pub whistle_at : ℕ → ℕ
whistle_at distance = distance + 18

-- what is allowed: numbers from 1 on, the other fields from 0 on. The place is counted from the gate's first bit
unfoldable pub gate_rules : ℕ → ℕ → ℕ → ℕ → ℕ → Refusal
gate_rules distance number suffix class whistle =
    or_else (refuse (ltb number 1) (not_allowed (number_at distance)))
    (or_else (refuse (ltb last_number number) (not_allowed (number_at distance)))
    (or_else (refuse (ltb last_suffix suffix) (not_allowed (suffix_at distance)))
    (or_else (refuse (ltb last_class class) (not_allowed (class_at distance))) (refuse (ltb last_whistle whistle) (not_allowed (whistle_at distance))))))

-- what a judgement of a gate's fields tells: the place of the first one that is not allowed
abbrev pub told_field : {T : Type 0} → Result T ℕ → Refusal
told_field (Ok x) = none
told_field (Err p) = not_allowed p

-- the rules on a gate's 9 bytes
unfoldable pub gate_refusal : ℕ → List ℕ → Refusal
gate_refusal distance gate = gate_rules distance (get_or gate 2 0 * 256 + get_or gate 3 0) (get_or gate 4 0) (get_or gate 6 0) (get_or gate 8 0)

-- gates as a profile: the count has 5 bits, and a gate has the same pieces whatever its first
abbrev pub gate_profile_with : ℕ → Profile
gate_profile_with distance = record {
  kind = gate_type;
  count_width = 5;
  pieces = gate_bytes;
  first = distance - 8;
  others = λ first. behind_first;
  rules = gate_refusal distance;
}

-- gates of the new form, and the most of them
abbrev pub gate_profile : Profile
gate_profile = gate_profile_with distance_width

abbrev pub most_gates : ℕ
most_gates = 28
