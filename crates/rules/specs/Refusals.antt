-- The grounds on which a call on a session is refused, each with its number (document 01, "Session answers"), in the order of the checks.
use Rattle.std.specs.Prelude.{ℕ}
use Rattle.rules.specs.declared.refusals.Refusal.{Refusal}
use Rattle.rules.specs.declared.refusals.Refusal.TheVariants.{BadRecord, WrongLength, BadLoco, BadBytes, AlreadyRegistered, RegisterFull, NoTicketLeft, NoFreeRun, NoLiveTrain, SameTrain, BadPosition, BadLocation, BadGrid, BadFlags, NoClass, NotApplicable, NoPosition, NoPlace, NoSuchOrder, TooFarBack}

abbrev pub bad_record : ℕ  -- a record with a wrong mark, kind or length, or cut
bad_record = 24

abbrev pub wrong_length : ℕ  -- the lent session has another length
wrong_length = 34

abbrev pub bad_loco : ℕ  -- a named loco number out of range
bad_loco = 10

abbrev pub bad_bytes : ℕ  -- a request for no bytes, or for too many
bad_bytes = 11

abbrev pub already_registered : ℕ  -- the loco is registered already
already_registered = 12

abbrev pub register_full : ℕ  -- 24 trains are registered
register_full = 13

abbrev pub no_ticket_left : ℕ  -- the ticket counter is at its last number
no_ticket_left = 14

abbrev pub no_free_run : ℕ  -- no free run of slots is long enough
no_free_run = 15

abbrev pub no_live_train : ℕ  -- no live train has this loco and ticket
no_live_train = 16

abbrev pub same_train : ℕ  -- both trains of an SOS are the same
same_train = 23

abbrev pub bad_position : ℕ  -- a position that is none: a location out of range, or the rear above the front
bad_position = 17

abbrev pub bad_location : ℕ  -- an authority's end or a danger location out of range
bad_location = 17

abbrev pub bad_grid : ℕ  -- no grid has this number
bad_grid = 17

abbrev pub bad_flags : ℕ  -- flags that are not 91 of 0 or 1, or a mode that is none
bad_flags = 17

abbrev pub no_class : ℕ  -- a train of an SOS whose mode has no row class
no_class = 19

abbrev pub not_applicable : ℕ  -- the grid gives nothing for L2's class
not_applicable = 19

abbrev pub no_position : ℕ  -- a position that the measure needs was never reported
no_position = 18

abbrev pub no_place : ℕ  -- no place for an order
no_place = 20

abbrev pub no_such_order : ℕ  -- no order under that ticket
no_such_order = 21

abbrev pub too_far_back : ℕ  -- a step back by more than the entries kept
too_far_back = 22

-- the number of each ground
unfoldable pub number_of : Refusal → ℕ
number_of BadRecord = bad_record
number_of WrongLength = wrong_length
number_of BadLoco = bad_loco
number_of BadBytes = bad_bytes
number_of AlreadyRegistered = already_registered
number_of RegisterFull = register_full
number_of NoTicketLeft = no_ticket_left
number_of NoFreeRun = no_free_run
number_of NoLiveTrain = no_live_train
number_of SameTrain = same_train
number_of BadPosition = bad_position
number_of BadLocation = bad_location
number_of BadGrid = bad_grid
number_of BadFlags = bad_flags
number_of NoClass = no_class
number_of NotApplicable = not_applicable
number_of NoPosition = no_position
number_of NoPlace = no_place
number_of NoSuchOrder = no_such_order
number_of TooFarBack = too_far_back
