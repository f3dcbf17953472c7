-- The train record as a row of bytes: its numbers one behind the other, high byte first.
use Rattle.std.specs.Prelude.{List, [], ◌∷◌, ◌++◌, ℕ, ◌*◌, get_or, drop}
use Rattle.numbers.specs.Pieces.{unpack, pack}
use Rattle.trains.specs.declared.record.Train.{Train}
use Rattle.rows.specs.Parts.{bits, track_sizes, orders_sizes, track_values, orders_values, track_of, orders_of}

abbrev pub row_bytes : ℕ  -- the bytes of a row
row_bytes = 67

abbrev pub track_start : ℕ  -- where the track starts in a row
track_start = 12

abbrev pub orders_start : ℕ  -- and where the orders do
orders_start = 31

-- loco, ticket, start, slots, mode, mode left
abbrev pub head_sizes : List ℕ
head_sizes = 4 ∷ 4 ∷ 1 ∷ 1 ∷ 1 ∷ 1 ∷ []

-- the sizes of a row's numbers
abbrev pub row_sizes : List ℕ
row_sizes = head_sizes ++ (track_sizes ++ orders_sizes)

-- the first six numbers of a record
abbrev pub head_values : Train → List ℕ
head_values t = t.loco.0 ∷ t.ticket.0 ∷ t.start.0 ∷ t.slots ∷ t.mode ∷ t.left ∷ []

-- the numbers of a record
abbrev pub row_values : Train → List ℕ
row_values t = head_values t ++ (track_values t.track ++ orders_values t.orders)

-- the record that a row's numbers read as
abbrev pub train_of : List ℕ → Train
train_of vs = record {
  loco = record { 0 = get_or vs 0 0 };
  ticket = record { 0 = get_or vs 1 0 };
  start = record { 0 = get_or vs 2 0 };
  slots = get_or vs 3 0;
  mode = get_or vs 4 0;
  left = get_or vs 5 0;
  track = track_of (drop 6 vs);
  orders = orders_of (drop 13 vs);
}

-- the record that the bytes from a byte on read as, whatever they are; past the end they read as 0
unfoldable pub row_at : List ℕ → ℕ → Train
row_at s at = train_of (unpack s (8 * at) (bits row_sizes))

-- the bytes with a record put as the row that starts at a byte; what would be past the end is dropped
unfoldable pub put_row : List ℕ → ℕ → Train → List ℕ
put_row s at t = pack s (8 * at) (bits row_sizes) (row_values t)
