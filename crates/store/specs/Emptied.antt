-- The empty session.
use Rattle.std.specs.Prelude.{List, ℕ, length, replicate}

-- as many zeros as there were bytes
unfoldable pub emptied : List ℕ → List ℕ
emptied bs = replicate (length bs) 0
