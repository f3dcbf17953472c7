-- A ring of `cap` notches that keeps the newest entries of a log: how its notches follow each other, and how it is read.
-- `entry_at i` is the entry at notch i. The head is the notch that the next entry goes to, so the newest entry stands just before the head.
use Rattle.std.specs.Prelude.{ℕ, zero, suc, ◌-◌, ltb}
use mathlib.Core.{Bool.cond, List.List, List.[], List.◌∷◌}

module _ (cap : ℕ) where
  -- the notch before, round the ring
  abbrev pub before : ℕ → ℕ
  before zero = cap - 1
  before (suc i) = i

  -- the notch after, round the ring
  abbrev pub after : ℕ → ℕ
  after i = cond (ltb (suc i) cap) (suc i) 0

  -- the n entries before the notch `at`, the newest first
  unfoldable pub read_back : {Entry : Type 0} → (ℕ → Entry) → ℕ → ℕ → List Entry
  read_back entry_at at zero = []
  read_back entry_at at (suc n) = entry_at (before at) ∷ read_back entry_at (before at) n
