-- THE TABLE: the worked examples that the paper marks (p), each with the numbers that the paper gives for it. Beside them stand those that an answer
-- has too: the place of a refusal, the bytes of a sub-packet, the first ticket and slot of an empty session, the steps that lead to an end.
use Rattle.std.specs.Prelude.{List, [], ◌∷◌, ◌++◌, ℕ, ◌/◌, ◌%◌}
use Rattle.transitions.specs.Names.{LS, FS, OV, TR, IS}
use Rattle.kinds.specs.{declared.Loco.Loco, declared.Ticket.Ticket}
use Rattle.rules.specs.{Deeds.flags, Deeds.position, Deeds.authority, Deeds.danger, Rules.Op, Rules.request, Rules.on, Rules.sos}
use Rattle.papers.specs.Cases.{Case, reading, stepping, requesting, ending, flags_of, untouched}

-- an example, and the numbers printed for it
pub record Line : Type 0 where
  pub case : Case
  pub printed : List ℕ

infixl 20 ◌gives◌
abbrev pub ◌gives◌ : Case → List ℕ → Line
c gives p = record { case = c; printed = p }

-- an answer accepted, with its three numbers
abbrev pub accepted : ℕ → ℕ → ℕ → List ℕ
accepted first second third = 0 ∷ first ∷ second ∷ third ∷ []

-- gates read, and bytes used
abbrev pub gates_read : ℕ → ℕ → List ℕ
gates_read gates bytes = 0 ∷ 0 ∷ gates ∷ bytes ∷ []

-- a gate read that is refused, and the bit at fault
abbrev pub refused : ℕ → ℕ → List ℕ
refused reason place = reason ∷ place ∷ 0 ∷ 0 ∷ []

-- a gate outside a sub-packet: distance and number in two bytes each, high byte first, then one for each other field
abbrev pub gate : ℕ → ℕ → ℕ → ℕ → ℕ → ℕ → ℕ → List ℕ
gate distance number suffix manning class whistling type =
    distance / 256 ∷ distance % 256 ∷ number / 256 ∷ number % 256 ∷ suffix ∷ manning ∷ class ∷ whistling ∷ type ∷ []

-- L1, which asks first, and L2
abbrev pub loco1 : Loco
loco1 = record { 0 = 1 }

abbrev pub ticket1 : Ticket
ticket1 = record { 0 = 1 }

abbrev pub loco2 : Loco
loco2 = record { 0 = 2 }

abbrev pub ticket2 : Ticket
ticket2 = record { 0 = 2 }

-- both trains are there; L2 has its authority, and a danger location before the end of it
abbrev pub authorised : List Op
authorised = request loco1 54 ∷ request loco2 54 ∷ on loco2 ticket2 (authority 9000) ∷ on loco2 ticket2 (danger 7500) ∷ []

-- L2 goes to OS (condition 64) and L1 to FS (62), with its rear at 6,100
abbrev pub behind : List Op
behind = on loco2 ticket2 (flags (flags_of (64 ∷ []))) ∷ on loco1 ticket1 (flags (flags_of (62 ∷ []))) ∷ on loco1 ticket1 (position 6300 6100) ∷ []

-- SOS by grid 1, where the cell of OS is S2 M2
abbrev pub sos_raised : Op
sos_raised = sos loco2 ticket2 loco1 ticket1 1

-- L2 goes to OV (condition 63)
abbrev pub overridden : Op
overridden = on loco2 ticket2 (flags (flags_of (63 ∷ [])))

-- Three packets: gates and bytes used, then the gate (650 m, number 12, suffix a, manned, B1, whistling, type 0) or the room as it was. Three requests:
-- ticket, start, slots. Three mode steps: mode, priority, tie. Two ends: M and S of the SOS, or the step to OV; then 1 and the end
abbrev pub table : List Line
table =
    (reading (0x30 ∷ 0x40 ∷ []) gives gates_read 0 2 ++ untouched)
    ∷ (reading (0x30 ∷ 0xE1 ∷ 0x05 ∷ 0x14 ∷ 0x06 ∷ 0x12 ∷ 0x80 ∷ []) gives gates_read 1 7 ++ gate 650 12 1 0 2 1 0)
    ∷ (reading (0x30 ∷ 0xE1 ∷ 0x05 ∷ 0x14 ∷ 0x06 ∷ 0x12 ∷ 0x81 ∷ []) gives refused 5 55 ++ untouched)
    ∷ (requesting loco1 54 gives accepted 1 1 1)
    ∷ (requesting loco1 55 gives accepted 1 1 2)
    ∷ (requesting loco1 324 gives accepted 1 1 6)
    ∷ (stepping FS (71 ∷ 76 ∷ []) gives accepted LS 7 1)
    ∷ (stepping FS (69 ∷ 2 ∷ []) gives accepted IS 1 0)
    ∷ (stepping TR (7 ∷ []) gives accepted TR 0 0)
    ∷ (ending (authorised ++ behind) sos_raised loco2 ticket2 gives accepted 2 2 0 ++ accepted 1 5800 0)
    ∷ (ending authorised overridden loco2 ticket2 gives accepted OV 4 0 ++ accepted 1 9000 0)
    ∷ []
