-- The bytes of a session, as they are lent: as many as it has, and each of them a byte.
use mathlib.Core.{List.List, Path.◌≡◌}
use Rattle.std.specs.Prelude.{ℕ, ◌<◌, length, get_or}
use Rattle.store.specs.Layout.{session_bytes}

-- as many as a session has, each below 256
pub record Lent (bs : List ℕ) : Type 0 where
  pub size : length bs ≡ session_bytes
  pub bytes : (i : ℕ) → get_or bs i 0 < 256
