-- Laws of the header: what is put there is read, and all else stays.
use Prim.Native.Nat.{ℕ, ◌^◌, ◌≤◌, ◌<◌}
use mathlib.Core.List.{List}
use mathlib.Core.Path.{◌≡◌, refl}
use native.Mathlib.Omega.{arith}
use lib.ListN.{length}
use Rattle.numbers.specs.Numbers.{number_at}
use Rattle.numbers.proofs.FieldLaws.{Bytes}
use Rattle.replay.specs.Demand3.{depth}
use Rattle.store.specs.Layout.{word_bytes, counter_at, kept_at, head_at, book_at}
use Rattle.store.specs.Stands.{counter_of}
use Rattle.store.proofs.Frames.{Changes}
use Rattle.kinds.specs.declared.Ticket.{Ticket}
use Rattle.entries.proofs.ThreeLaws.{three_put, three_changes, first_back, second_back, third_back}
use Rattle.ledger.specs.Log.{headed}

-- a notch, and how many entries are kept, are numbers of a word
pub word_small : (n : ℕ) → n ≤ depth → n < 2 ^ 32
unfolding depth
word_small n h = omega arith

module _ (s : List ℕ) (h : Bytes s) (counter : Ticket) (kept head : ℕ) where
  headed-is : headed s counter kept head ≡ three_put word_bytes s counter_at kept_at head_at counter.0 kept head
  unfolding headed three_put
  headed-is = refl

  -- only the header changes
  pub headed_changes : Changes s (headed s counter kept head) counter_at book_at
  headed_changes = rw headed-is (three_changes word_bytes s h counter_at kept_at head_at counter.0 kept head refl refl)

  module _ (room : book_at ≤ length s) where
    pub headed-counter : counter.0 < 2 ^ 32 → counter_of (headed s counter kept head) ≡ counter
    headed-counter l =
        let number : number_at word_bytes (headed s counter kept head) counter_at ≡ counter.0 =
        rw headed-is (first_back word_bytes s h counter_at kept_at head_at counter.0 kept head refl refl room l) in
        λ k. record { 0 = number k }

    pub headed-kept : kept < 2 ^ 32 → number_at word_bytes (headed s counter kept head) kept_at ≡ kept
    headed-kept l = rw headed-is (second_back word_bytes s h counter_at kept_at head_at counter.0 kept head refl refl room l)

    pub headed-head : head < 2 ^ 32 → number_at word_bytes (headed s counter kept head) head_at ≡ head
    headed-head l = rw headed-is (third_back word_bytes s h counter_at kept_at head_at counter.0 kept head refl refl room l)
