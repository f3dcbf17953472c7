-- The log of a session: the ring's entries, and the header that says how many are kept and which notch the next one goes to.
use Rattle.std.specs.Prelude.{List, ℕ}
use Rattle.numbers.specs.Numbers.{put_number}
use Rattle.replay.specs.Demand3.{depth}
use Rattle.ring.specs.Ring.{read_back}
use Rattle.store.specs.{Layout.word_bytes, Layout.counter_at, Layout.kept_at, Layout.head_at, Layout.entry_offset, Stands.kept_of, Stands.head_of}
use Rattle.kinds.specs.declared.Ticket.{Ticket}
use Rattle.entries.specs.Entry.{Entry, entry_at}

-- the entry in a notch of the ring
abbrev pub entry_in : List ℕ → ℕ → Entry
entry_in bs notch = entry_at bs (entry_offset notch)

-- the entries kept, the newest first
abbrev pub log_of : List ℕ → List Entry
log_of bs = read_back depth (entry_in bs) (head_of bs) (kept_of bs)

-- the header with these numbers
unfoldable pub headed : List ℕ → Ticket → ℕ → ℕ → List ℕ
headed bs counter kept head =
    put_number word_bytes (put_number word_bytes (put_number word_bytes bs counter_at counter.0) kept_at kept) head_at head
