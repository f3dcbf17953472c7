-- A walk over the transitions that leave a mode, as the code takes it from one to the next.
use mathlib.Core.Path.{◌≡◌, ap, ◌∙◌, sym}
use mathlib.Core.Bool.{true, false, cond}
use mathlib.Core.List.{List, [], ◌∷◌, ◌++◌}
use Prim.Native.Nat.{ℕ, ◌+◌, ◌≤◌, ◌<◌}
use native.Mathlib.Numerals.{add-one}
use lib.ListN.{length, get_or, take, length-map}
use lib.Seq.{take-suc, take_all}
use Rattle.std.specs.Prelude.{Option, Some}
use Rattle.modes.specs.declared.Step.{Step}
use Rattle.transitions.specs.Table.{Transition, table, those, leaves_from}
use Rattle.transitions.specs.Held.{bytes_of, leaving_bytes, stated}
use Rattle.transitions.proofs.Held.{nowhere, map_at, stated_among}
use Rattle.modes.specs.Flags.{any_set}
use Rattle.modes.specs.Next.{is_open}
use Rattle.modes.specs.Kept.{kept, considered}
use Rattle.modes.proofs.Choosing.{choice, walk_more}

-- a transition, given by its bytes, is open, or it is not
module _ (fs : List ℕ) (s : Option Step) (bytes : List ℕ) where
  pub considered_open : any_set fs (stated bytes) ≡ true → considered fs s bytes ≡ Some (kept s (get_or bytes 0 0) (get_or bytes 1 0))
  unfolding considered
  considered_open e = rw e

  pub considered_shut : any_set fs (stated bytes) ≡ false → considered fs s bytes ≡ s
  unfolding considered
  considered_shut e = rw e

-- the transitions that leave mode m, lent by their bytes
module _ (m : ℕ) (fs : List ℕ) where
  abbrev leaving : List Transition
  leaving = those (leaves_from m) table

  -- the best step by the first i of them
  abbrev pub best_of : ℕ → Option Step
  best_of i = choice (those (is_open fs) (take i leaving))

  pub as_many : length (leaving_bytes m) ≡ length leaving
  unfolding leaving_bytes
  as_many = length-map leaving bytes_of

  considered_at : (i : ℕ) → i < length leaving → (s : Option Step)
      → considered fs s (get_or (leaving_bytes m) i []) ≡ cond (is_open fs (get_or leaving i nowhere)) (Some (kept s (get_or leaving i nowhere).target (get_or leaving i nowhere).priority)) s
  unfolding considered leaving_bytes
  considered_at i h s =
      let a = get_or leaving i nowhere in
      ap (considered fs s) (map_at bytes_of [] leaving i h)
      ∙ ap (λ (ns : List ℕ). cond (any_set fs ns) (Some (kept s a.target a.priority)) s) (stated_among (leaves_from m) i)

  more : (i : ℕ) → i < length leaving → take (i + 1) leaving ≡ take i leaving ++ (get_or leaving i nowhere ∷ [])
  more i h = rw (add-one, take-suc leaving i nowhere h)

  -- each turn adds one transition
  pub walk_step : (i : ℕ) → i < length leaving → considered fs (best_of i) (get_or (leaving_bytes m) i []) ≡ best_of (i + 1)
  walk_step i h =
      considered_at i h (best_of i)
      ∙ sym (walk_more (is_open fs) (take i leaving) (get_or leaving i nowhere))
      ∙ ap (λ (l : List Transition). choice (those (is_open fs) l)) (sym (more i h))

  pub best_of_all : (i : ℕ) → length leaving ≤ i → best_of i ≡ choice (those (is_open fs) leaving)
  best_of_all i h = ap (λ (l : List Transition). choice (those (is_open fs) l)) (take_all i leaving h)
