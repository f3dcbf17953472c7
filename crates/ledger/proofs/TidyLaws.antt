-- What moves a session leaves its bytes tidy: effects that fit, taken in, and entries undone.
use Prim.Native.Nat.{ℕ, zero, suc, ◌-◌, ◌<◌}
use mathlib.Core.List.{List}
use mathlib.Core.Logic.{⊎_elim, inl, inr}
use native.Mathlib.Omega.{arith}
use Rattle.numbers.proofs.FieldLaws.{lt_or_le}
use Rattle.replay.specs.Demand3.{depth}
use Rattle.ring.specs.Ring.{before}
use Rattle.ring.proofs.Rings.{before_in}
use Rattle.rows.proofs.FitLaws.{Fits}
use Rattle.rules.specs.declared.effect.Change.{Change}
use Rattle.rules.specs.declared.effect.Effect.{Effect}
use Rattle.store.specs.Layout.{row_offset}
use Rattle.store.specs.Lent.{Lent}
use Rattle.store.specs.Stands.{counter_of, kept_of, head_of}
use Rattle.store.specs.Tidy.{Tidy}
use Rattle.store.proofs.Frames.{row_changes, lent_after}
use Rattle.store.proofs.TidyLaws.{tidy-put, tidy-after}
use Rattle.store.proofs.ViewLaws.{head_in}
use Rattle.trains.specs.Sought.{row_count}
use Rattle.kinds.specs.declared.Ticket.{Ticket}
use Rattle.entries.proofs.TidyLaws.{Neat, run_neat, row_neat, entry_neat, back_neat}
use Rattle.ledger.specs.Back.{stepped, stepped_by}
use Rattle.ledger.specs.Log.{headed}
use Rattle.ledger.specs.Settled.{change_put, pushed, effect_put, settled}
use Rattle.ledger.proofs.HeaderLaws.{headed_changes}
use Rattle.ledger.proofs.SettledLaws.{EffectFits, change-put, change-passed}

-- the header put
header_neat : (s : List ℕ) (counter : Ticket) (kept head : ℕ) → Neat s → Neat (headed s counter kept head)
header_neat s counter kept head (lent, tidy) =
    let r = headed_changes s lent.bytes counter kept head in (
      lent_after lent r,
      tidy-after lent r tidy (λ i l. inl (inr (omega arith))) (λ p l. inl (inr (omega arith))) (λ p l. inl (inr (omega arith))) (λ i l. inl (inr (omega arith))),
    )

-- a row written
change_neat : (s : List ℕ) (c : Change) → (c.row < row_count → Fits c.train) → Neat s → Neat (change_put s c)
change_neat s c f (lent, tidy) =
    ⊎_elim
    (λ l.
    rw (change-put s c l)
    (row_neat c.row l (row_changes s (row_offset c.row) c.train lent.bytes)
    (tidy-put s (row_offset c.row) c.train lent.bytes (omega (arith, lent.size)) (f l)) (lent, tidy)))
    (λ l. rw (change-passed s c l) (lent, tidy))
    (lt_or_le c.row row_count)

-- an effect that fits, taken in
pub settled-tidy : (s : List ℕ) → Lent s → (counter : Ticket) (e : Effect) → EffectFits e → Tidy s → Tidy (settled s counter e)
unfolding settled effect_put pushed
settled-tidy s lent counter e fits tidy =
    (change_neat _ e.also fits.also
    (change_neat _ e.changed (λ l. fits.changed)
    (run_neat _ e.run
    (header_neat _ counter _ _
    (entry_neat s e (head_of s) (omega (arith, fits.bounds.changed)) fits.bounds.also (head_in s) (lent, tidy)))))).1

stepped_neat : (s : List ℕ) → Neat s → Neat (stepped s)
unfolding stepped
stepped_neat s neat =
    let p : ℕ = before depth (head_of s) in
    header_neat _ (counter_of s) (kept_of s - 1) p (back_neat s p (before_in depth (head_of s) (head_in s)) neat)

-- the latest k entries undone
pub stepped_by-tidy : (k : ℕ) (s : List ℕ) → Lent s → Tidy s → Tidy (stepped_by k s)
unfolding stepped_by
stepped_by-tidy zero s lent tidy = tidy
stepped_by-tidy (suc k) s lent tidy = let neat = stepped_neat s (lent, tidy) in stepped_by-tidy k (stepped s) neat.0 neat.1
