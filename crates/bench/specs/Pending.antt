-- What is still to be written of the listing: the first bytes of a buffer.
use mathlib.Core.{Bool.true, List.List, List.◌++◌, Path.◌≡◌}
use Rattle.std.specs.Prelude.{ℕ, ◌+◌, ◌≤◌, length, take}
use Rattle.lines.specs.Line.{room}
use Rattle.bench.specs.declared.pending.Pending.{Pending}

-- the bytes that are pending
abbrev pub pending_bytes : List ℕ → Pending → List ℕ
pending_bytes buffer p = take p.filled buffer

-- nothing is pending, and no write has failed
abbrev pub nothing_pending : Pending
nothing_pending = record { filled = 0; writable = true }

-- n bytes more are pending
abbrev pub with_more : ℕ → Pending → Pending
with_more n p = record { filled = p.filled + n; writable = p.writable }

-- ROOM FOR A LINE: `sent` was handed to the system, and what is left stays pending
pub record HasRoom (buffer : List ℕ) (p r : Pending) : Type 0 where
  pub sent : List ℕ
  pub rest : sent ++ pending_bytes buffer r ≡ pending_bytes buffer p
  pub large : r.filled + room ≤ length buffer
  pub writable : r.writable ≡ true → p.writable ≡ true
