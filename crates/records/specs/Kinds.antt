-- THE KINDS OF RECORD: the length of each kind's payload, and the call that a payload makes. Numbers stand high byte first: locos and locations
-- 4 bytes, tickets, byte counts and k 2, a grid 1.
use mathlib.Core.{Bool.cond, List.List, List.[], List.◌∷◌}
use Rattle.std.specs.Prelude.{ℕ}
use lib.{Dec.eqb, Dec.ltb, ListN.length, ListN.drop}
use Rattle.numbers.specs.Numbers.{number_at}
use Rattle.kinds.specs.{declared.Loco.Loco, declared.Ticket.Ticket}
use Rattle.replay.specs.Demand3.{Call, op, back}
use Rattle.rules.specs.Deeds.{Deed, flags, position, authority, danger, clear}
use Rattle.rules.specs.Rules.{Op, request, release, on, sos}

abbrev pub flags_at : ℕ  -- where the flags begin
flags_at = 6

-- the loco number at byte i of a payload
abbrev pub loco_at : List ℕ → ℕ → Loco
loco_at p i = record { 0 = number_at 4 p i }

-- the ticket at byte i
abbrev pub ticket_at : List ℕ → ℕ → Ticket
ticket_at p i = record { 0 = number_at 2 p i }

-- the location at byte i
abbrev pub location_at : List ℕ → ℕ → ℕ
location_at p i = number_at 4 p i

-- the flags behind loco and ticket: all the rest
abbrev pub flags_in : List ℕ → List ℕ
flags_in p = drop flags_at p

-- where they start in a payload that has any
unfoldable pub flags_start : List ℕ → ℕ
flags_start p = cond (ltb (length p) flags_at) 0 flags_at

-- a kind of record: its number, the length of its payload, and the call that a payload makes
pub record Kind : Type 0 where
  pub number : ℕ
  pub takes : ℕ
  pub makes : List ℕ → Call Op

-- a line of the table
infixl 70 kind◌takes◌makes◌
abbrev pub kind◌takes◌makes◌ : ℕ → ℕ → (List ℕ → Call Op) → Kind
kind n takes l makes c = record { number = n; takes = l; makes = c }

-- a deed on the train whose loco and ticket the payload begins with
abbrev pub does : (List ℕ → Deed) → List ℕ → Call Op
does deed p = op (on (loco_at p 0) (ticket_at p 4) (deed p))

-- THE TABLE. Kinds 2 to 8 begin with loco and ticket; an SOS names L2 first, then L1
abbrev pub kinds : List Kind
kinds =
    kind 1 takes 6 makes (λ p. op (request (loco_at p 0) (number_at 2 p 4)))
    ∷ kind 2 takes 6 makes (λ p. op (release (loco_at p 0) (ticket_at p 4)))
    ∷ kind 3 takes 97 makes does (λ p. flags (flags_in p))
    ∷ kind 4 takes 14 makes does (λ p. position (location_at p 6) (location_at p 10))
    ∷ kind 5 takes 10 makes does (λ p. authority (location_at p 6))
    ∷ kind 6 takes 10 makes does (λ p. danger (location_at p 6))
    ∷ kind 7 takes 13 makes (λ p. op (sos (loco_at p 0) (ticket_at p 4) (loco_at p 6) (ticket_at p 10) (number_at 1 p 12)))
    ∷ kind 8 takes 8 makes does (λ p. clear (ticket_at p 6))
    ∷ kind 9 takes 2 makes (λ p. back (number_at 2 p 0))
    ∷ []

-- any other number is no kind: it takes nothing, and of nothing it makes a step back by 0
abbrev pub no_kind : Kind
no_kind = kind 0 takes 0 makes (λ p. back (number_at 2 p 0))

-- the kind with a number, among some
unfoldable pub among : List Kind → ℕ → Kind
among [] n = no_kind
among (k ∷ ks) n = cond (eqb n k.number) k (among ks n)

-- the length of the payload of a record of kind n; 0 where n is no kind
unfoldable pub payload_length : ℕ → ℕ
payload_length n = (among kinds n).takes

-- the call that a payload of kind n makes
unfoldable pub call_by : ℕ → List ℕ → Call Op
call_by n p = (among kinds n).makes p
