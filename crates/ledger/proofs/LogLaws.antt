-- Laws of the log: its entries have no byte in common, it starts with the newest, and the empty session has none.
use Prim.Native.Nat.{ℕ, zero, suc, ◌-◌, ◌<◌}
use mathlib.Core.List.{List, [], ◌∷◌}
use mathlib.Core.Logic.{⊎_elim, inl, inr, ◌≢◌}
use mathlib.Core.Path.{◌≡◌, ap}
use native.Mathlib.Omega.{arith}
use Rattle.numbers.proofs.FieldLaws.{lt_or_le}
use Rattle.replay.specs.Demand3.{depth}
use Rattle.ring.specs.Ring.{before, read_back}
use Rattle.store.specs.Emptied.{emptied}
use Rattle.store.specs.Layout.{entry_bytes, entry_offset}
use Rattle.store.specs.Stands.{kept_of, head_of}
use Rattle.store.proofs.EmptyLaws.{emptied-kept}
use Rattle.store.proofs.Frames.{Clear}
use Rattle.entries.specs.Entry.{Entry}
use Rattle.ledger.specs.Log.{entry_in, log_of}

-- two entries of the ring have no byte in common
pub entries_clear : (p q : ℕ) → p ≢ q → Clear (entry_offset p) entry_bytes (entry_offset q) entry_bytes
entries_clear p q ne =
    ⊎_elim (λ l. inl (omega arith)) (λ l. ⊎_elim (λ m. inr (omega arith)) (λ m. absurd (ne (omega arith))) (lt_or_le q p)) (lt_or_le p q)

newest_first : (entry : ℕ → Entry) (at n : ℕ) → 0 < n → read_back depth entry at n ≡ entry (before depth at) ∷ read_back depth entry (before depth at) (n - 1)
unfolding read_back
newest_first entry at zero h = absurd (omega arith)
newest_first entry at (suc n) h =
    let e : n ≡ suc n - 1 = omega arith in
    ap (λ (m : ℕ). entry (before depth at) ∷ read_back depth entry (before depth at) m) e

-- the newest entry, and the others
pub log_newest : (s : List ℕ) → 0 < kept_of s
    → log_of s ≡ entry_in s (before depth (head_of s)) ∷ read_back depth (entry_in s) (before depth (head_of s)) (kept_of s - 1)
log_newest s h = newest_first (entry_in s) (head_of s) (kept_of s) h

-- no entries are kept in the empty session
pub emptied-log : (bs : List ℕ) → log_of (emptied bs) ≡ []
unfolding read_back
emptied-log bs = ap (read_back depth (entry_in (emptied bs)) (head_of (emptied bs))) (emptied-kept bs)
