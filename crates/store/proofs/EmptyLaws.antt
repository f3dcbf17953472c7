-- Laws of the empty session.
use Prim.Native.Nat.{ℕ, ◌+◌, ◌*◌, ◌≤◌, ◌<◌}
use mathlib.Core.List.{List, []}
use mathlib.Core.Logic.{⊎_elim}
use mathlib.Core.Path.{◌≡◌, sym, ◌∙◌}
use native.Mathlib.Decide.{ℕ_discrete}
use native.Mathlib.Omega.{arith}
use lib.ListN.{length, get_or, set, length-replicate, get_or-replicate, replicate, get_or-eq_default}
use lib.Seq.{ext_get_or, get_or-set_same, get_or-set_other}
use Rattle.numbers.specs.Numbers.{number_at}
use Rattle.numbers.proofs.FieldLaws.{Bytes, lt_or_le}
use Rattle.numbers.proofs.NumberLaws.{number_past}
use Rattle.trains.specs.Sought.{row_count}
use Rattle.rows.proofs.Bytewise.{field-same, bit_of_byte}
use Rattle.rows.proofs.RowLaws.{row-zeros}
use Rattle.kinds.specs.Kinds.{last_slot}
use Rattle.trains.specs.Record.{blank_train, no_ticket}
use Rattle.trains.specs.declared.record.Train.{Train}
use Rattle.store.specs.Emptied.{emptied}
use Rattle.store.specs.Layout.{word_bytes, counter_at, kept_at, book_at, row_offset, session_bytes}
use Rattle.store.specs.Stands.{view_of, book_of, counter_of, kept_of}
use Rattle.store.specs.Lent.{Lent}
use Rattle.store.proofs.RegisterLaws.{view-by}
use Rattle.store.proofs.Stretches.{length-stretch, stretch_at}
use Rattle.store.proofs.ViewLaws.{view-row, view-rows}

pub length-emptied : (bs : List ℕ) → length (emptied bs) ≡ length bs
unfolding emptied
length-emptied bs = length-replicate {A = ℕ} (length bs) 0

-- ---- what the empty session stands for

pub byte-emptied : (bs : List ℕ) (k : ℕ) → get_or (emptied bs) k 0 ≡ 0
unfolding emptied
byte-emptied bs k =
    ⊎_elim
    (λ l. get_or-replicate {A = ℕ} (length bs) k 0 0 l)
    (λ l. get_or-eq_default (replicate (length bs) 0) 0 {n = k} (omega (arith, length-replicate {A = ℕ} (length bs) 0)))
    (lt_or_le k (length bs))

pub emptied-bytes : (bs : List ℕ) → Bytes (emptied bs)
emptied-bytes bs k = rw (byte-emptied bs k) (omega arith)

pub emptied_lent : (bs : List ℕ) → length bs ≡ session_bytes → Lent (emptied bs)
emptied_lent bs e = record { size = length-emptied bs ∙ e; bytes = emptied-bytes bs }

-- every number in it is 0
pub emptied-number : (n : ℕ) (bs : List ℕ) (i : ℕ) → number_at n (emptied bs) i ≡ 0
emptied-number n bs i =
    field-same (emptied bs) [] (8 * i) (8 * i) (8 * n) (λ q l. bit_of_byte (emptied bs) [] i i n (λ k m. byte-emptied bs (i + k)) q l)
    ∙ number_past n [] i (omega arith)

pub emptied-counter : (bs : List ℕ) → counter_of (emptied bs) ≡ no_ticket
emptied-counter bs = λ i. record { 0 = emptied-number word_bytes bs counter_at i }

pub emptied-kept : (bs : List ℕ) → kept_of (emptied bs) ≡ 0
emptied-kept bs = omega (arith, emptied-number word_bytes bs kept_at)

emptied-rows : (bs : List ℕ) → (view_of (emptied bs)).rows ≡ replicate row_count blank_train
emptied-rows bs =
    ext_get_or blank_train (view_of (emptied bs)).rows (replicate row_count blank_train)
    (view-rows (emptied bs) ∙ sym (length-replicate {A = Train} row_count blank_train))
    (λ k l.
    let m : k < row_count = omega (arith, view-rows (emptied bs)) in
    view-row (emptied bs) k m
    ∙ row-zeros (emptied bs) (row_offset k) (λ i q. byte-emptied bs (row_offset k + i))
    ∙ sym (get_or-replicate {A = Train} row_count k blank_train blank_train m))

emptied-book : (bs : List ℕ) → length bs ≡ session_bytes → book_of (emptied bs) ≡ replicate last_slot 0
emptied-book bs e =
    let size : length (book_of (emptied bs)) ≡ last_slot = length-stretch (emptied bs) last_slot book_at (omega (arith, length-emptied bs)) in
    ext_get_or 0 (book_of (emptied bs)) (replicate last_slot 0) (size ∙ sym (length-replicate {A = ℕ} last_slot 0))
    (λ k l.
    let m : k < last_slot = omega arith in
    stretch_at (emptied bs) last_slot book_at k m ∙ byte-emptied bs (book_at + k) ∙ sym (get_or-replicate {A = ℕ} last_slot k 0 0 m))

-- 24 blank rows, and every slot free
pub emptied-view : (bs : List ℕ) → length bs ≡ session_bytes
    → view_of (emptied bs) ≡ record { rows = replicate row_count blank_train; book = replicate last_slot 0 }
emptied-view bs e =
    view-by (emptied bs) (replicate row_count blank_train) (replicate last_slot 0) (emptied-rows bs) (emptied-book bs e)
