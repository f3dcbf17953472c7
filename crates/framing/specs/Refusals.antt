-- The grounds on which a sub-packet is refused, and how a chain of grounds gives one refusal. A ground has its number (document 01,
-- "Sub-packets"; 6 is of document 02, T-07) and its place (document 02, T-03): the first bit of the field at fault, counted from the start of the
-- sub-packet. Number 0 is no refusal.
use Rattle.std.specs.Prelude.{ℕ, zero, suc, ◌+◌, Bool, true, false}

-- a ground that holds, or none
pub record Refusal : Type 0 where
  pub number : ℕ
  pub place : ℕ

abbrev pub type_at : ℕ  -- where type, length and count start
type_at = 0

abbrev pub length_at : ℕ
length_at = 4

abbrev pub count_at : ℕ
count_at = 11

abbrev pub nowhere : ℕ  -- no field is at fault
nowhere = 0

abbrev pub none : Refusal  -- no ground holds
none = record { number = 0; place = nowhere }

abbrev pub too_short : Refusal  -- fewer than 2 bytes
too_short = record { number = 1; place = nowhere }

abbrev pub wrong_type : Refusal  -- a type that does not exist, or not the one asked for
wrong_type = record { number = 2; place = type_at }

abbrev pub length_too_small : Refusal  -- a length below 2
length_too_small = record { number = 3; place = length_at }

abbrev pub cut_off : Refusal  -- fewer bytes than the length says
cut_off = record { number = 1; place = nowhere }

abbrev pub length_not_for_count : Refusal  -- a length that is not the one for the entries that the count says
length_not_for_count = record { number = 3; place = count_at }

abbrev pub not_allowed : ℕ → Refusal  -- a field whose value is not allowed, which starts at bit p
not_allowed p = record { number = 4; place = p }

abbrev pub padding_set : ℕ → Refusal  -- padding that is not zero, of which bit p is the first that is set
padding_set p = record { number = 5; place = p }

abbrev pub no_room : Refusal  -- an output too small
no_room = record { number = 1; place = nowhere }

abbrev pub too_many_to_move : Refusal  -- more gates than the form holds to which they are moved
too_many_to_move = record { number = 3; place = count_at }

abbrev pub distance_stuck : ℕ → Refusal  -- a distance that the form to which it is moved cannot say, which starts at bit p
distance_stuck p = record { number = 6; place = p }

-- a writer judges no sub-packet, so its own grounds have no place

abbrev pub not_whole_entries : Refusal  -- bytes outside a sub-packet that are no whole entries
not_whole_entries = record { number = 3; place = nowhere }

abbrev pub too_many_entries : Refusal  -- more entries than a sub-packet may have
too_many_entries = record { number = 3; place = nowhere }

abbrev pub too_wide : Refusal  -- a value too large for its field's width
too_wide = record { number = 4; place = nowhere }

-- a where there is no refusal, b where there is one
unfoldable pub unless_refused : {A : Type 0} → ℕ → A → A → A
unless_refused zero a b = a
unless_refused (suc m) a b = b

-- the ground where the test holds
unfoldable pub refuse : Bool → Refusal → Refusal
refuse true reason = reason
refuse false reason = none

-- the first refusal, or else the next
unfoldable pub or_else : Refusal → Refusal → Refusal
or_else first next = unless_refused first.number next first

-- the refusal of a part of a sub-packet that starts at bit p, whose place was counted from there
abbrev pub moved_by : ℕ → Refusal → Refusal
moved_by p r = record { number = r.number; place = p + r.place }

-- the refusal with its place untold
abbrev pub untold : Refusal → Refusal
untold r = record { number = r.number; place = nowhere }
