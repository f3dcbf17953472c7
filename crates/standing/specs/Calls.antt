-- Calls made one after another on lent bytes, the first call first: what they answer, and the bytes after them.
use Rattle.std.specs.Prelude.{List, [], ◌∷◌, ℕ}
use Rattle.replay.specs.Demand3.{Call, History}
use Rattle.rules.specs.Rules.{Op}
use Rattle.settings.specs.Usual.{usual}
use Rattle.standing.specs.{Said.said, Standing.rules, Standing.answered, Standing.bytes_left}

-- the calls with their answers
unfoldable pub history : List ℕ → List (Call Op) → History (rules usual)
history bs [] = []
history bs (c ∷ cs) = record { call = c; answer = said c (answered bs c) } ∷ history (bytes_left bs c) cs

-- the bytes after all of them
unfoldable pub bytes_after_all : List ℕ → List (Call Op) → List ℕ
bytes_after_all bs [] = bs
bytes_after_all bs (c ∷ cs) = bytes_after_all (bytes_left bs c) cs
