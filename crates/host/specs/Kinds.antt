-- The numbers of C as the locos and tickets that they stand for.
use Rattle.std.specs.Prelude.{ℕ}
use Rattle.kinds.specs.{declared.Loco.Loco, declared.Ticket.Ticket}

-- a loco number
abbrev pub loco : ℕ → Loco
loco n = record { 0 = n }

-- a ticket
abbrev pub ticket : ℕ → Ticket
ticket n = record { 0 = n }
