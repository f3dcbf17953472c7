-- The rows of the register, and what a search of them looks for.
use Rattle.std.specs.Prelude.{Bool, not, ◌&&◌, ℕ}
use Rattle.kinds.specs.{declared.Loco.Loco, Kinds.no_loco, Kinds.same_loco, Kinds.same_ticket, Kinds.ticket_in_range}
use Rattle.trains.specs.{declared.record.Train.Train, declared.sought.Sought.Sought}
use Rattle.trains.specs.declared.sought.Sought.TheVariants.{Pair, Number, Empty}
use Rattle.trains.specs.Record.{is_empty}

abbrev pub row_count : ℕ  -- 24 trains at most: the rows of a register
row_count = 24

-- a row's loco number is the one wanted, and the row is not empty
unfoldable pub holds_loco : Loco → Loco → Bool
holds_loco loco wanted = not (same_loco loco no_loco) && same_loco loco wanted

-- a row holds what is sought: a loco and a ticket together, where a ticket out of range names no train; a loco; or no train
unfoldable pub is_sought : Sought → Train → Bool
is_sought (Pair loco ticket) t = holds_loco t.loco loco && ticket_in_range ticket && same_ticket t.ticket ticket
is_sought (Number loco) t = holds_loco t.loco loco
is_sought Empty t = is_empty t
