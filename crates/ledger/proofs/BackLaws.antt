-- Laws of a step back: the view is the newest entries undone, the log has them off, the counter stays.
use Prim.Native.Nat.{ℕ, zero, suc, ◌+◌, ◌*◌, ◌-◌, ◌%◌, ◌≤◌, ◌<◌}
use mathlib.Core.List.{List, [], ◌∷◌}
use mathlib.Core.Logic.{inr}
use mathlib.Core.Path.{◌≡◌, refl, sym, ap, ◌∙◌}
use native.Mathlib.Nat.{mod-eq_of_lt}
use native.Mathlib.Omega.{arith}
use lib.ListN.{length, take, drop}
use Rattle.numbers.specs.Numbers.{number_at}
use Rattle.numbers.proofs.NumberLaws.{number_lt}
use Rattle.replay.specs.Demand3.{depth}
use Rattle.ring.specs.Ring.{before, read_back}
use Rattle.ring.proofs.Rings.{before_in, ring_same}
use Rattle.rows.specs.Row.{row_bytes}
use Rattle.rules.specs.View.{View}
use Rattle.store.specs.Layout.{word_bytes, counter_at, kept_at, book_at, entry_offset}
use Rattle.store.specs.Lent.{Lent}
use Rattle.store.specs.Stands.{view_of, counter_of, kept_of, head_of}
use Rattle.store.proofs.Frames.{Changes, lent_after}
use Rattle.store.proofs.RegisterLaws.{view-stays}
use Rattle.store.proofs.ViewLaws.{head_in, kept_in_lem, entry-room}
use Rattle.kinds.specs.Kinds.{last_slot}
use Rattle.trains.specs.Sought.{row_count}
use Rattle.entries.specs.Entry.{Entry, undone}
use Rattle.entries.specs.Undone.{entry_back}
use Rattle.entries.proofs.EntryLaws.{entry-stays}
use Rattle.entries.proofs.UndoneLaws.{entry_back_changes, entry_back-view}
use Rattle.ledger.specs.Back.{stepped, stepped_by}
use Rattle.ledger.specs.Log.{entry_in, log_of, headed}
use Rattle.ledger.proofs.HeaderLaws.{word_small, headed_changes, headed-counter, headed-kept, headed-head}
use Rattle.ledger.proofs.LogLaws.{log_newest}

-- ---- one step

module _ (s : List ℕ) (lent : Lent s) where
  notch : ℕ
  notch = before depth (head_of s)

  notch_in : notch < depth
  unfolding notch
  notch_in = before_in depth (head_of s) (head_in s)

  undid : List ℕ
  undid = entry_back s (entry_offset notch)

  undid_change : Changes s undid book_at (last_slot + row_bytes * row_count)
  unfolding undid
  undid_change = entry_back_changes s lent (entry_offset notch) (omega arith) (entry-room notch notch_in)

  lent_undid : Lent undid
  lent_undid = lent_after lent undid_change

  kept : ℕ
  kept = kept_of s - 1

  stepped-is : stepped s ≡ headed undid (counter_of s) kept notch
  unfolding stepped undid kept notch
  stepped-is = refl

  header_change : Changes undid (headed undid (counter_of s) kept notch) counter_at book_at
  header_change = headed_changes undid lent_undid.bytes (counter_of s) kept notch

  header_room : book_at ≤ length undid
  header_room = omega (arith, lent_undid.size)

  kept_small : kept ≤ depth
  unfolding kept
  kept_small = omega (arith, kept_in_lem s)

  pub stepped_lent : Lent (stepped s)
  stepped_lent = rw stepped-is (lent_after lent_undid header_change)

  -- the newest entry undone
  pub stepped-view : view_of (stepped s) ≡ undone (entry_in s (before depth (head_of s))) (view_of s)
  unfolding undid notch
  stepped-view =
      ap view_of stepped-is
      ∙ view-stays header_change (omega (arith, lent_undid.size)) (inr (omega arith))
      ∙ entry_back-view s lent (entry_offset notch) (omega arith) (entry-room notch notch_in)

  -- the ticket counter stays
  pub stepped-counter : counter_of (stepped s) ≡ counter_of s
  stepped-counter =
      rw stepped-is (headed-counter undid lent_undid.bytes (counter_of s) kept notch header_room (number_lt word_bytes s counter_at))

  -- one entry fewer is kept
  pub stepped_kept : kept_of (stepped s) ≡ kept_of s - 1
  unfolding kept
  stepped_kept =
      let number : number_at word_bytes (stepped s) kept_at ≡ kept =
      rw stepped-is (headed-kept undid lent_undid.bytes (counter_of s) kept notch header_room (word_small kept kept_small)) in
      omega (arith, kept_small)

  pub stepped-head : head_of (stepped s) ≡ before depth (head_of s)
  unfolding notch
  stepped-head =
      ap (λ (n : ℕ). n % depth)
      (rw stepped-is (headed-head undid lent_undid.bytes (counter_of s) kept notch header_room (word_small notch (omega (arith, notch_in)))))
      ∙ mod-eq_of_lt notch_in

  -- no entry of the ring changes
  pub stepped-entry : (q : ℕ) → q < depth → entry_in (stepped s) q ≡ entry_in s q
  unfolding undid
  stepped-entry q m =
      ap (λ (t : List ℕ). entry_in t q) stepped-is
      ∙ entry-stays header_change (entry_offset q) (inr (omega arith))
      ∙ entry-stays undid_change (entry_offset q) (inr (omega arith))

  -- the log after it
  pub stepped-log : log_of (stepped s) ≡ read_back depth (entry_in s) (before depth (head_of s)) (kept_of s - 1)
  unfolding notch
  stepped-log =
      (λ k. read_back depth (entry_in (stepped s)) (stepped-head k) (stepped_kept k))
      ∙ ring_same depth (entry_in s) (entry_in (stepped s)) stepped-entry (kept_of s - 1) (before depth (head_of s)) notch_in

-- the newest entry comes off the log
pub stepped-drop : (s : List ℕ) → Lent s → 0 < kept_of s → log_of (stepped s) ≡ drop 1 (log_of s)
stepped-drop s lent h = stepped-log s lent ∙ sym (ap (drop 1) (log_newest s h))

-- ---- k steps

-- entries undone one after another, the newest first
unfoldable pub undone_all : List Entry → View → View
undone_all [] v = v
undone_all (e ∷ es) v = undone_all es (undone e v)

-- one entry, and the rest
pub stepped_by-one : (k : ℕ) (bs : List ℕ) → 0 < k → stepped_by (k - 1) (stepped bs) ≡ stepped_by k bs
unfolding stepped_by
stepped_by-one zero bs h = absurd (omega arith)
stepped_by-one (suc k) bs h = let e : suc k - 1 ≡ k = omega arith in ap (λ (n : ℕ). stepped_by n (stepped bs)) e

pub stepped_by-none : (k : ℕ) (bs : List ℕ) → k ≤ 0 → bs ≡ stepped_by k bs
unfolding stepped_by
stepped_by-none zero bs h = refl
stepped_by-none (suc k) bs h = absurd (omega arith)

pub stepped_by_lent : (k : ℕ) (s : List ℕ) → Lent s → Lent (stepped_by k s)
unfolding stepped_by
stepped_by_lent zero s lent = lent
stepped_by_lent (suc k) s lent = stepped_by_lent k (stepped s) (stepped_lent s lent)

-- the ticket counter stays
pub stepped_by-counter : (k : ℕ) (s : List ℕ) → Lent s → counter_of (stepped_by k s) ≡ counter_of s
unfolding stepped_by
stepped_by-counter zero s lent = refl
stepped_by-counter (suc k) s lent = stepped_by-counter k (stepped s) (stepped_lent s lent) ∙ stepped-counter s lent

-- k entries fewer are kept
pub stepped_by-kept : (k : ℕ) (s : List ℕ) → Lent s → kept_of (stepped_by k s) ≡ kept_of s - k
unfolding stepped_by
stepped_by-kept zero s lent = omega arith
stepped_by-kept (suc k) s lent = stepped_by-kept k (stepped s) (stepped_lent s lent) ∙ less (stepped_kept s lent)
  where
    less : kept_of (stepped s) ≡ kept_of s - 1 → kept_of (stepped s) - k ≡ kept_of s - suc k
    less e = omega arith

-- the newest k entries come off the log
pub stepped_by-log : (k : ℕ) (s : List ℕ) → Lent s → k ≤ kept_of s → log_of (stepped_by k s) ≡ drop k (log_of s)
unfolding stepped_by
stepped_by-log zero s lent h = refl
stepped_by-log (suc k) s lent h =
    stepped_by-log k (stepped s) (stepped_lent s lent) (omega (arith, stepped_kept s lent))
    ∙ ap (drop k) (stepped-log s lent)
    ∙ sym (ap (drop (suc k)) (log_newest s (omega arith)))

-- and are undone, the newest first
pub stepped_by-view : (k : ℕ) (s : List ℕ) → Lent s → k ≤ kept_of s → view_of (stepped_by k s) ≡ undone_all (take k (log_of s)) (view_of s)
unfolding stepped_by undone_all
stepped_by-view zero s lent h = refl
stepped_by-view (suc k) s lent h =
    stepped_by-view k (stepped s) (stepped_lent s lent) (omega (arith, stepped_kept s lent))
    ∙ (λ i. undone_all (take k (stepped-log s lent i)) (stepped-view s lent i))
    ∙ sym (ap (λ (es : List Entry). undone_all (take (suc k) es) (view_of s)) (log_newest s (omega arith)))
