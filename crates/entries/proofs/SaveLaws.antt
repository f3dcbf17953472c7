-- Undoing what was saved gives the view back.
use Prim.Native.Nat.{ℕ, suc, ◌+◌, ◌-◌, ◌≤◌, ◌<◌}
use mathlib.Core.Bool.{true, not}
use mathlib.Core.List.{List}
use mathlib.Core.Logic.{◌⊎◌, inl, inr}
use mathlib.Core.Path.{◌≡◌, sym, ◌∙◌}
use native.Mathlib.Decide.{ℕ_discrete}
use native.Mathlib.Omega.{arith}
use borrow.Author.Tests.{le-leb}
use lib.ListN.{length, get_or, set, length-set}
use lib.Seq.{ext_get_or, get_or-set_same, get_or-set_other}
use Rattle.numbers.proofs.FieldLaws.{lt_or_le}
use Rattle.rules.specs.Effect.{mark_for, marked, applied}
use Rattle.rules.specs.View.{View}
use Rattle.rules.specs.declared.effect.Effect.{Effect}
use Rattle.store.proofs.BookLaws.{length_marked}
use Rattle.store.proofs.EffectLaws.{marked-stays, marked-run}
use Rattle.kinds.specs.Kinds.{last_slot}
use Rattle.kinds.specs.Ranges.{one_to}
use Rattle.trains.specs.Record.{blank_train}
use Rattle.trains.specs.declared.record.Train.{Train}
use Rattle.entries.specs.Entry.{saved, undone, RunHolds}

-- slots are counted from 1
in_book : (k : ℕ) → k < last_slot → one_to last_slot (suc k) ≡ true
unfolding one_to
in_book k l = simp (le-leb 1 (suc k) (omega arith), le-leb (suc k) last_slot (omega arith))

-- two rows stored, and put back as they were
rows_back : (rows : List Train) (i j : ℕ) (a b : Train)
    → set (set (set (set rows i a) j b) i (get_or rows i blank_train)) j (get_or rows j blank_train) ≡ rows
rows_back rows i j a b =
    ext_get_or blank_train (set three j (get_or rows j blank_train)) rows (length-set three j (get_or rows j blank_train) ∙ size)
    (λ k l. at k (omega (arith, length-set three j (get_or rows j blank_train), size)) (ℕ_discrete k j) (ℕ_discrete k i))
  where
    two : List Train
    two = set (set rows i a) j b

    three : List Train
    three = set two i (get_or rows i blank_train)

    size-two : length two ≡ length rows
    size-two = length-set (set rows i a) j b ∙ length-set rows i a

    size : length three ≡ length rows
    size = length-set two i (get_or rows i blank_train) ∙ size-two

    at : (k : ℕ) → k < length rows → Dec (k ≡ j) → Dec (k ≡ i) → get_or (set three j (get_or rows j blank_train)) k blank_train ≡ get_or rows k blank_train
    at k l (yes e) d = rw e (get_or-set_same three j (get_or rows j blank_train) blank_train (omega (arith, size)))
    at k l (no ne) (yes e) =
        get_or-set_other three j k (get_or rows j blank_train) blank_train ne
        ∙ rw e (get_or-set_same two i (get_or rows i blank_train) blank_train (omega (arith, size-two)))
    at k l (no ne) (no nf) =
        get_or-set_other three j k (get_or rows j blank_train) blank_train ne
        ∙ get_or-set_other two i k (get_or rows i blank_train) blank_train nf
        ∙ get_or-set_other (set rows i a) j k b blank_train ne
        ∙ get_or-set_other rows i k a blank_train nf

-- a run of slots marked, and marked as all of it was before
run-back : (book : List ℕ) (slot n mark old : ℕ) → length book ≡ last_slot
    → ((k : ℕ) → k < last_slot → slot ≤ suc k → suc k < slot + n → get_or book (suc k - 1) 0 ≡ old)
    → marked (marked book slot n mark) slot n old ≡ book
run-back book slot n mark old size holds =
    ext_get_or 0 back book (length_marked once slot n old ∙ length_marked book slot n mark)
    (λ k l.
    let below : k < last_slot = omega (arith, length_marked once slot n old, length_marked book slot n mark) in
    let here : k ≡ suc k - 1 = omega arith in
    rw here (at k below (lt_or_le (suc k) slot) (lt_or_le (suc k) (slot + n))))
  where
    once : List ℕ
    once = marked book slot n mark

    back : List ℕ
    back = marked once slot n old

    out : (k : ℕ) → (suc k < slot) ⊎ (slot + n ≤ suc k) → get_or back (suc k - 1) 0 ≡ get_or book (suc k - 1) 0
    out k o = marked-stays once slot n old (suc k) (omega arith) o ∙ marked-stays book slot n mark (suc k) (omega arith) o

    at : (k : ℕ) → k < last_slot → (suc k < slot) ⊎ (slot ≤ suc k) → (suc k < slot + n) ⊎ (slot + n ≤ suc k)
        → get_or back (suc k - 1) 0 ≡ get_or book (suc k - 1) 0
    at k l (inl a) b = out k (inl a)
    at k l (inr a) (inr b) = out k (inr b)
    at k l (inr a) (inl b) =
        marked-run once slot n old (suc k) (omega (arith, length_marked book slot n mark)) (in_book k l) a b ∙ sym (holds k l a b)

-- UNDOING WHAT WAS SAVED GIVES THE VIEW BACK
pub undo_save : (v : View) (e : Effect) → length v.book ≡ last_slot → RunHolds v e → undone (saved v e) (applied v e) ≡ v
unfolding saved applied
undo_save v e size holds =
    let rows = rows_back v.rows e.changed.row e.also.row e.changed.train e.also.train in
    let book =
    run-back v.book e.run.start.0 e.run.slots (mark_for e.run.taken) (mark_for (not e.run.taken)) size
    (λ k l a b. holds (record { 0 = suc k }) (in_book k l) a b) in
    λ k. record { rows = rows k; book = book k }
