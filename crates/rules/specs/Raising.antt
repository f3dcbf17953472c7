-- SOS between L1 and L2: each train's order by the cell of the grid, under the other train's ticket. All is judged before anything is changed.
use Rattle.std.specs.Prelude.{Bool, false, not, ◌||◌, ℕ, eqb}
use Rattle.sos.specs.{Shares.share_of_l1, Shares.share_of_l2, declared.shares.Share.Share}
use Rattle.sos.specs.declared.shares.Share.TheVariants.{Nothing, NoPosition, Order}
use Rattle.grids.specs.{Classes.class_of, Cells.NA, Cells.cell_of, Cells.measure_of, Cells.aspect_of}
use Rattle.kinds.specs.{Kinds.loco_in_range, Ranges.is_grid, declared.Ticket.Ticket}
use Rattle.trains.specs.{Orders.has_place, Orders.with_order, declared.record.Train.Train}
use Rattle.rules.specs.{Effect.no_slot, Effect.change, Effect.effect, Ruling.accepted_with, Ruling.ruling, Ruling.when}
use Rattle.rules.specs.Refusals.{bad_loco, no_live_train, same_train, bad_grid, no_class, not_applicable, no_position, no_place}
use Rattle.rules.specs.{Named.Named, Ruling.Ruling}

-- ---- one train

-- a train as it is judged: whether its loco number is in range and names a live train, its row and row class, and what its share lacks
pub record Side : Type 0 where
  pub loco : Bool
  pub live : Bool
  pub row : ℕ
  pub class : ℕ
  pub lacks : ℕ

-- what a share lacks: a position that was never reported, or a place where the train has none; 0 for nothing
unfoldable pub share_ground : Share → Bool → ℕ
share_ground Nothing place = 0
share_ground NoPosition place = no_position
share_ground (Order limit) place = when (not place) no_place 0

-- a train with its share taken, under the other's ticket
unfoldable pub share_taken : Share → Ticket → Train → Train
share_taken Nothing other t = t
share_taken NoPosition other t = t
share_taken (Order limit) other t = with_order t other limit

-- the row class of a train; 0 for none
abbrev pub train_class : Train → ℕ
train_class t = class_of t.mode t.left

-- one train as it is judged: its name, its row and row class, and what its share lacks under the other's ticket
abbrev pub side_of : Named → Share → Ticket → Side
side_of n share other = record {
  loco = loco_in_range n.loco;
  live = n.live;
  row = n.row;
  class = train_class n.train;
  lacks = share_ground share (has_place n.train other);
}

-- ---- the two trains

-- the cell of the grid, by L2's class
abbrev pub cell_for : ℕ → Train → ℕ
cell_for grid l2 = cell_of grid (train_class l2)

-- what the cell gives L2
abbrev pub share_for_2 : ℕ → ℕ → Train → Train → Share
share_for_2 margin grid l2 l1 = share_of_l2 (measure_of (cell_for grid l2)) l1 l2 margin

-- and L1
abbrev pub share_for_1 : ℕ → Train → Train → Share
share_for_1 grid l2 l1 = share_of_l1 (measure_of (cell_for grid l2)) l1

-- THE GROUNDS on which an SOS is refused, in the order of the checks: first those of the two names
abbrev pub names_ground : Side → Side → ℕ → ℕ
names_ground l2 l1 next =
    when (not l2.loco || not l1.loco) bad_loco
    (when (not l2.live || not l1.live) no_live_train
    next)

-- then those of two live trains
abbrev pub trains_ground : ℕ → ℕ → Side → Side → ℕ
trains_ground grid cell l2 l1 =
    when (eqb l2.row l1.row) same_train
    (when (not (is_grid grid)) bad_grid
    (when (eqb l2.class 0 || eqb l1.class 0) no_class
    (when (eqb cell NA) not_applicable
    (when (eqb l2.lacks no_position || eqb l1.lacks no_position) no_position
    (when (eqb l2.lacks no_place || eqb l1.lacks no_place) no_place
    0)))))

abbrev pub side_ground : ℕ → ℕ → Side → Side → ℕ
side_ground grid cell l2 l1 = names_ground l2 l1 (trains_ground grid cell l2 l1)

unfoldable pub sos_ground : ℕ → ℕ → Named → Named → ℕ
sos_ground margin grid l2 l1 =
    let t2 : Train = l2.train in
    let t1 : Train = l1.train in
    side_ground grid (cell_for grid t2) (side_of l2 (share_for_2 margin grid t2 t1) t1.ticket) (side_of l1 (share_for_1 grid t2 t1) t2.ticket)

-- SOS: M and S of the cell, and each train with its share
unfoldable pub raised : ℕ → ℕ → Ticket → Named → Named → Ruling
raised margin grid counter l2 l1 =
    let t2 : Train = l2.train in
    let t1 : Train = l1.train in
    ruling (accepted_with (measure_of (cell_for grid t2)) (aspect_of (cell_for grid t2)) 0) counter
    (effect no_slot 0 false (change l2.row (share_taken (share_for_2 margin grid t2 t1) t1.ticket t2))
    (change l1.row (share_taken (share_for_1 grid t2 t1) t2.ticket t1)))
