-- Laws of the register's searches, for whatever is sought: what is found holds it, no row before it does, and nothing is found
-- exactly where no row holds it.
use Rattle.std.specs.Prelude.{Option, None, Some}
use Prim.Native.Nat.{ℕ, ◌+◌, ◌*◌, ◌≤◌, ◌<◌}
use mathlib.Core.Bool.{Bool, true, false, not, ◌&&◌, and-true, and-false, and-eq-true_iff}
use mathlib.Core.List.{List}
use mathlib.Core.Path.{◌≡◌, refl, sym, ap, subst, ◌∙◌}
use native.Mathlib.Omega.{arith}
use borrow.Author.Tests.{eqb-true, eqb-false, not-true}
use lib.Dec.{eqb}
use Rattle.numbers.specs.Numbers.{number_at}
use Rattle.kinds.specs.declared.Loco.{Loco}
use Rattle.kinds.specs.declared.Ticket.{Ticket}
use Rattle.trains.specs.declared.record.Train.{Train}
use Rattle.kinds.specs.Kinds.{last_ticket, no_loco, same_loco, same_ticket, ticket_in_range}
use Rattle.kinds.proofs.FoundLaws.{Before, first_below, first-true, first-before, first-none}
use Rattle.kinds.proofs.RangeLaws.{one-to}
use Rattle.trains.specs.declared.sought.Sought.{Sought}
use Rattle.trains.specs.declared.sought.Sought.TheVariants.{Pair, Number, Empty}
use Rattle.trains.specs.Sought.{row_count, holds_loco, is_sought}
use Rattle.kinds.specs.Found.{first}
use Rattle.rows.specs.Row.{row_bytes}
use Rattle.register.specs.Register.{is_asked, row_of, row_holds, searched, sought_at, found_in}
use Rattle.rows.proofs.Bytewise.{at_bit}
use Rattle.rows.proofs.RowLaws.{row_parts}

module _ (s : List ℕ) (at : ℕ) (sought : Sought) where
  -- what is found is one of the 24 rows
  pub found_below : (i : ℕ) → found_in s at sought ≡ Some i → i < row_count
  unfolding found_in
  found_below i e = omega (arith, first_below (sought_at s at sought) 0 row_count i e)

  -- and holds what is sought
  pub found_holds : (i : ℕ) → found_in s at sought ≡ Some i → is_sought sought (row_of s at i) ≡ true
  unfolding found_in sought_at
  found_holds i e = first-true (sought_at s at sought) 0 row_count i e

  before : (f : Option ℕ) (k : ℕ) → f ≡ found_in s at sought → k < row_count → Before k f → is_sought sought (row_of s at k) ≡ false
  unfolding found_in sought_at
  before f k e l h =
      first-before (sought_at s at sought) 0 row_count k (omega arith) (omega arith) (subst (λ (g : Option ℕ). Before k g) e h)

  -- no row before it does
  pub found_first : (i k : ℕ) → found_in s at sought ≡ Some i → k < i → is_sought sought (row_of s at k) ≡ false
  found_first i k e l = before (Some i) k (sym e) (omega (arith, found_below i e)) l

  -- where nothing is found, no row does
  pub found_none : found_in s at sought ≡ None → (k : ℕ) → k < row_count → is_sought sought (row_of s at k) ≡ false
  found_none e k l = before None k (sym e) l tt

  -- and where no row does, nothing is found
  pub none_found : ((k : ℕ) → k < row_count → is_sought sought (row_of s at k) ≡ false) → found_in s at sought ≡ None
  unfolding found_in sought_at
  none_found h = first-none (sought_at s at sought) 0 row_count (λ k l u. h k (omega arith))

-- ---- what is held

-- a row that holds a loco is not empty
pub holds_loco_means : (l wanted : Loco) → holds_loco l wanted ≡ true → (l.0 ≡ wanted.0) × (l.0 ≡ 0 → ⊥)
unfolding holds_loco
holds_loco_means l wanted e =
    let both = (and-eq-true_iff (not (same_loco l no_loco)) (same_loco l wanted)).0 e in
    (eqb-true l.0 wanted.0 both.1, eqb-false l.0 0 (not-true (eqb l.0 0) both.0))

-- a loco and a ticket together
pub pair_means : (loco : Loco) (ticket : Ticket) (t : Train) → is_sought (Pair loco ticket) t ≡ true
    → ((t.loco.0 ≡ loco.0) × (t.loco.0 ≡ 0 → ⊥)) × ((t.ticket.0 ≡ ticket.0) × ((1 ≤ ticket.0) × (ticket.0 ≤ last_ticket)))
unfolding is_sought
pair_means loco ticket t e =
    let both = (and-eq-true_iff (holds_loco t.loco loco && ticket_in_range ticket) (same_ticket t.ticket ticket)).0 e in
    let first = (and-eq-true_iff (holds_loco t.loco loco) (ticket_in_range ticket)).0 both.0 in
    (holds_loco_means t.loco loco first.0, (eqb-true t.ticket.0 ticket.0 both.1, one-to last_ticket ticket.0 first.1))

-- an empty row
pub empty_means : (t : Train) → is_sought Empty t ≡ true → t.loco.0 ≡ 0
unfolding is_sought
empty_means t e = eqb-true t.loco.0 0 e

-- ---- the rows by their numbers

-- the loco number of row i is its first number
pub loco_word : (s : List ℕ) (at i : ℕ) → number_at 4 s (at + row_bytes * i + 0) ≡ (row_of s at i).loco.0
loco_word s at i =
    at_bit 4 s (at + row_bytes * i + 0) (8 * (at + row_bytes * i)) (omega arith) ∙ sym (ap (λ (t : Train). t.loco.0) (row_parts s (at + row_bytes * i)))

-- its ticket is the next
pub ticket_word : (s : List ℕ) (at i : ℕ) → number_at 4 s (at + row_bytes * i + 4) ≡ (row_of s at i).ticket.0
ticket_word s at i = sym (ap (λ (t : Train). t.ticket.0) (row_parts s (at + row_bytes * i)))

-- rows with a loco and a ticket are those that hold what is sought, where that is so of every record
pub searched_sought : (s : List ℕ) (at : ℕ) (loco : Loco) (asked : Option Ticket) (sought : Sought)
    → ((t : Train) → same_loco t.loco loco && is_asked asked t.ticket ≡ is_sought sought t)
    → searched s at loco asked ≡ found_in s at sought
unfolding searched row_holds found_in sought_at
searched_sought s at loco asked sought h = λ i. first (λ (k : ℕ). h (row_of s at k) i) 0 row_count

-- a row holds the loco number that it has, but for that of an empty row
held : (l wanted : Loco) → holds_loco l wanted ≡ not (same_loco wanted no_loco) && same_loco l wanted
unfolding holds_loco
held l wanted = go (same_loco l wanted) refl
  where
    go : (b : Bool) → same_loco l wanted ≡ b → not (same_loco l no_loco) && b ≡ not (same_loco wanted no_loco) && b
    go true q = rw (eqb-true l.0 wanted.0 q) refl
    go false q = and-false (not (same_loco l no_loco)) ∙ sym (and-false (not (same_loco wanted no_loco)))

pub number-none : (loco : Loco) (t : Train) → same_loco loco no_loco ≡ true → is_sought (Number loco) t ≡ false
unfolding is_sought
number-none loco t e = rw (held t.loco loco, e) refl

pub pair_none : (loco : Loco) (ticket : Ticket) (t : Train) → same_loco loco no_loco ≡ true → is_sought (Pair loco ticket) t ≡ false
unfolding is_sought
pair_none loco ticket t e = rw (held t.loco loco, e) refl

pub pair_out : (loco : Loco) (ticket : Ticket) (t : Train) → ticket_in_range ticket ≡ false → is_sought (Pair loco ticket) t ≡ false
unfolding is_sought
pair_out loco ticket t e = rw (e, and-false (holds_loco t.loco loco)) refl

pub empty-same : (t : Train) → same_loco t.loco no_loco && is_asked None t.ticket ≡ is_sought Empty t
unfolding is_sought is_asked
empty-same t = and-true (same_loco t.loco no_loco)

pub number_same : (loco : Loco) → same_loco loco no_loco ≡ false → (t : Train) → same_loco t.loco loco && is_asked None t.ticket ≡ is_sought (Number loco) t
unfolding is_sought is_asked
number_same loco e t = rw (held t.loco loco, e) (and-true (same_loco t.loco loco))

pub pair_same : (loco : Loco) (ticket : Ticket) → same_loco loco no_loco ≡ false → ticket_in_range ticket ≡ true
    → (t : Train) → same_loco t.loco loco && is_asked (Some ticket) t.ticket ≡ is_sought (Pair loco ticket) t
unfolding is_sought is_asked
pair_same loco ticket e r t = rw (held t.loco loco, e, r, and-true (same_loco t.loco loco)) refl
