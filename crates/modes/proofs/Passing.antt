-- The plain engine's walk: over the conditions of a transition, and from transition to transition of the table.
use mathlib.Core.Path.{◌≡◌, refl, ap, ◌∙◌, sym}
use mathlib.Core.Bool.{Bool, true, false, cond, not, ◌&&◌, ◌||◌}
use mathlib.Core.List.{List, [], ◌∷◌, ◌++◌, map}
use Prim.Native.Nat.{ℕ, ◌+◌, ◌≤◌, ◌<◌}
use native.Mathlib.Numerals.{add-one}
use native.Mathlib.Omega.{arith}
use lib.Dec.{eqb}
use lib.ListN.{get_or, take, drop}
use lib.Seq.{take-suc, take_all}
use Rattle.std.specs.Prelude.{Option, None, Some}
use Rattle.std.specs.List.{list_any}
use Rattle.transitions.specs.Table.{Transition, transition_count, table}
use Rattle.transitions.specs.Held.{bytes_of, table_bytes, leaves_at}
use Rattle.transitions.proofs.Checked.{table-checked}
use Rattle.transitions.proofs.Held.{nowhere, transition_at, map_at, bytes_at, nonzero, named_at, from_at}
use Rattle.modes.specs.declared.plain.Best.{Best}
use Rattle.modes.specs.Flags.{is_set, any_set}
use Rattle.modes.specs.Plain.{weighed, counts, passed, walked}

-- is a condition set, where 0 is none? And is one of these?
abbrev pub is_named : List ℕ → ℕ → Bool
is_named fs n = not (eqb n 0) && is_set fs n

abbrev pub any_named : List ℕ → List ℕ → Bool
any_named fs ns = list_any (is_named fs) ns

named_set : (fs ns : List ℕ) → any_named fs ns ≡ any_set fs (nonzero ns)
named_set fs [] = refl
named_set fs (n ∷ ns) = go (eqb n 0) (named_set fs ns)
  where
    go : (z : Bool) → any_named fs ns ≡ any_set fs (nonzero ns) → (not z && is_set fs n) || any_named fs ns ≡ any_set fs (cond z (nonzero ns) (n ∷ nonzero ns))
    go true e = e
    go false e = ap (λ (b : Bool). is_set fs n || b) e

-- does transition t count?
abbrev pub counts_at : ℕ → List ℕ → ℕ → Bool
counts_at m fs t = get_or (map (counts m fs) table) t false

-- transition t of the table: it leaves another mode, or is open as its bytes say; and is passed over, or weighed
module _ (t : ℕ) (h : t < transition_count) (m : ℕ) (fs : List ℕ) where
  counts_at_lem : counts_at m fs t ≡ counts m fs (transition_at t)
  counts_at_lem = map_at (counts m fs) false table t (omega (arith, table-checked.eighty))

  pub leaves_another : leaves_at m t ≡ false → counts_at m fs t ≡ false
  leaves_another e = counts_at_lem ∙ rw (sym (from_at m t h) ∙ e)

  pub leaves_this : leaves_at m t ≡ true → counts_at m fs t ≡ any_named fs (drop 2 (get_or table_bytes t []))
  leaves_this e =
      counts_at_lem
      ∙ rw (sym (from_at m t h) ∙ e)
      (sym (ap (λ (l : List ℕ). any_named fs (drop 2 l)) (bytes_at t h) ∙ named_set fs (drop 2 (bytes_of (transition_at t))) ∙ ap (any_set fs) (named_at t)))

  pub passed_over : (b : Option Best) → counts_at m fs t ≡ false → passed m fs b (transition_at t) ≡ b
  passed_over b e = rw (sym counts_at_lem ∙ e)

  pub passed-weighed : (b : Option Best) → counts_at m fs t ≡ true → passed m fs b (transition_at t) ≡ Some (weighed b (get_or (get_or table_bytes t []) 0 0) (get_or (get_or table_bytes t []) 1 0))
  passed-weighed b e = rw (sym counts_at_lem ∙ e, bytes_at t h)

-- a walk over one more
walked_more : (m : ℕ) (fs : List ℕ) (b : Option Best) (xs : List Transition) (a : Transition) → walked m fs b (xs ++ (a ∷ [])) ≡ passed m fs (walked m fs b xs) a
unfolding walked
walked_more m fs b [] a = refl
walked_more m fs b (x ∷ xs) a = walked_more m fs (passed m fs b x) xs a

-- the best so far, after the first t transitions of the table
abbrev pub best_of : ℕ → List ℕ → ℕ → Option Best
best_of m fs t = walked m fs None (take t table)

module _ (m : ℕ) (fs : List ℕ) where
  pub best_none : best_of m fs 0 ≡ None
  unfolding walked
  best_none = refl

  pub best-more : (t : ℕ) → t < transition_count → best_of m fs (t + 1) ≡ passed m fs (best_of m fs t) (transition_at t)
  best-more t h = rw (add-one, take-suc table t nowhere (omega (arith, table-checked.eighty))) (walked_more m fs None (take t table) (transition_at t))

  pub best-all : (t : ℕ) → transition_count ≤ t → best_of m fs t ≡ walked m fs None table
  best-all t h = ap (walked m fs None) (take_all t table (omega (arith, table-checked.eighty)))
