-- What a change says of the ruling on a name: refused with its own ground, or done in the row of the live train.
use Rattle.std.specs.Prelude.{Option, ℕ, List, Bool, true, false}
use Rattle.std.specs.declared.result.Result.TheVariants.{Ok, Err}
use mathlib.Core.Path.{◌≡◌, refl, sym, ap, ◌∙◌}
use Rattle.kinds.specs.declared.Ticket.{Ticket}
use Rattle.trains.specs.declared.record.Train.{Train}
use Rattle.rules.specs.declared.refusals.Refusal.{Refusal}
use Rattle.rules.specs.declared.refusals.Refusal.TheVariants.{BadFlags}
use Rattle.rules.specs.{declared.named.Live.Live, declared.named.Named.Named as NamedSaid, declared.deeds.Changed.Changed as ChangedSaid}
use Rattle.rules.specs.{Refusals.number_of, Ruling.ruled, Effect.row_only}
use Rattle.rules.specs.Deeds.{Changed, end_answer, end_asked, mode_stepped, deed_ground, deed_done}
use Rattle.rules.specs.Meant.{named_meant, live_train, changed_meant, ruling_by, ruling_meant, name_of}
use Rattle.trains.specs.Authority.{end_of}
use Rattle.modes.specs.Next.{refuses, next_step}
use Rattle.modes.proofs.Stepping.{next-refused}
use Rattle.modes.proofs.Laws.{accepted_otherwise}
use Rattle.rules.proofs.ChainLaws.{named_live, answer_live, numbered}

-- a deed that is refused, with its own ground
pub own_ground : (counter : Ticket) (n : NamedSaid) (l : Live) (e : Refusal) (d : Train → Changed) → live_train n ≡ Ok l
    → changed_meant l.train (Err e) ≡ d l.train
    → ruling_meant counter (Err e)
    ≡ ruled counter (deed_ground (named_meant n) (d (named_meant n).train)) (deed_done counter (named_meant n) (d (named_meant n).train))
unfolding ruled
own_ground counter n l e d q h =
    let k = named_live n l (d (named_meant n).train).answer.answer q in
    rw (k.1, k.0, ← h, numbered e) refl

-- a deed that is done, in the row of the train
pub done_in_row : (counter : Ticket) (n : NamedSaid) (l : Live) (x : ChangedSaid) (d : Train → Changed) → live_train n ≡ Ok l
    → changed_meant l.train (Ok x) ≡ d l.train
    → ruling_by (record { told = x.told; counter = counter; effect = row_only l.row x.train })
    ≡ ruled counter (deed_ground (named_meant n) (d (named_meant n).train)) (deed_done counter (named_meant n) (d (named_meant n).train))
unfolding ruled
done_in_row counter n l x d q h =
    let k = named_live n l (d (named_meant n).train).answer.answer q in
    rw (k.1, k.0, ← h) refl

-- the end of the train that is named
pub end_there : (n : NamedSaid) (l : Live) → live_train n ≡ Ok l → end_answer (end_of l.train) ≡ end_asked (named_meant n)
unfolding end_asked
end_there n l q =
    ap (λ (f : Option Live). end_answer (end_of (name_of n.loco f).train)) (sym (named_live n l 0 q).0) ∙ answer_live n l _ q

-- a step is refused by 17 alone
pub step_refused : (t : Train) (m : ℕ) (fs : List ℕ) → ((next_step m fs).answer ≡ 0 → ⊥)
    → changed_meant t (Err BadFlags) ≡ mode_stepped t (next_step m fs)
unfolding mode_stepped number_of
step_refused t m fs n = go (refuses m fs) refl
  where
    go : (b : Bool) → refuses m fs ≡ b → changed_meant t (Err BadFlags) ≡ mode_stepped t (next_step m fs)
    go true e = rw (← next-refused m fs e) refl
    go false e = absurd (n (accepted_otherwise m fs e))
