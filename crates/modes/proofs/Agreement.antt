-- Both engines give the same step: for every number as the mode and any bytes as the flags, refusals included.
use mathlib.Core.Path.{◌≡◌, refl, ap, ◌∙◌, sym}
use mathlib.Core.Bool.{Bool, true, false, cond, ◌&&◌}
use mathlib.Core.List.{List, [], ◌∷◌}
use Prim.Native.Nat.{ℕ, zero, suc, ◌+◌, ◌≤◌, ◌<◌, min}
use native.Mathlib.Numerals.{add-one}
use native.Mathlib.Omega.{arith}
use lib.Dec.{eqb, ltb}
use lib.ListN.{take}
use lib.Seq.{take-suc, take_all}
use Rattle.std.specs.Prelude.{Option, None, Some}
use Rattle.std.specs.Option.{unwrap_or}
use Rattle.numbers.specs.Numbers.{one_if}
use Rattle.transitions.specs.Table.{Transition, transition_count, table, those, leaves_from}
use Rattle.transitions.proofs.Checked.{table-checked}
use Rattle.transitions.proofs.Held.{nowhere, transition_at}
use Rattle.modes.specs.declared.Step.{Step}
use Rattle.modes.specs.declared.plain.Best.{Best}
use Rattle.modes.specs.Next.{is_open, accepted, stays, choose, refuses, refused, next_step}
use Rattle.modes.specs.Kept.{kept}
use Rattle.modes.specs.Plain.{so_far, weighed, counts, passed, told, plain_step}
use Rattle.modes.proofs.Choosing.{choice, choice_or_stays, walk_more}
use Rattle.modes.proofs.Passing.{best_of, best_none, best-more, best-all}

-- the best so far as a step
abbrev step_by : Best → Step
step_by b = accepted b.mode b.priority (one_if b.tie)

abbrev as_step : Option Best → Option Step
as_step None = None
as_step (Some b) = Some (step_by b)

told_or_stays : (m : ℕ) (b : Option Best) → told m b ≡ unwrap_or (as_step b) (stays m)
told_or_stays m None = refl
told_or_stays m (Some b) = refl

-- a transition that counts changes the best so far as it changes the choice
step_weighed : (b : Option Best) (target p : ℕ) → step_by (weighed b target p) ≡ kept (as_step b) target p
unfolding weighed kept
step_weighed None target p = refl
step_weighed (Some b) target p = go (ltb p b.priority) (eqb p b.priority)
  where
    go : (y z : Bool) → step_by (cond y (so_far target p false) (cond z (so_far (min b.mode target) p true) b)) ≡ cond y (accepted target p 0) (cond z (accepted (min b.mode target) p 1) (step_by b))
    go true z = refl
    go false true = refl
    go false false = refl

step_passed : (m : ℕ) (fs : List ℕ) (b : Option Best) (a : Transition) → as_step (passed m fs b a) ≡ cond (counts m fs a) (Some (kept (as_step b) a.target a.priority)) (as_step b)
step_passed m fs b a = go (counts m fs a)
  where
    go : (x : Bool) → as_step (cond x (Some (weighed b a.target a.priority)) b) ≡ cond x (Some (kept (as_step b) a.target a.priority)) (as_step b)
    go true = ap (λ (s : Step). Some s) (step_weighed b a.target a.priority)
    go false = refl

-- of those that leave a mode, those that are open, are those that count
counted : (m : ℕ) (fs : List ℕ) (xs : List Transition) → those (is_open fs) (those (leaves_from m) xs) ≡ those (counts m fs) xs
counted m fs [] = refl
counted m fs (x ∷ xs) = go (leaves_from m x) (counted m fs xs)
  where
    go : (y : Bool) → those (is_open fs) (those (leaves_from m) xs) ≡ those (counts m fs) xs → those (is_open fs) (cond y (x ∷ those (leaves_from m) xs) (those (leaves_from m) xs)) ≡ cond (y && is_open fs x) (x ∷ those (counts m fs) xs) (those (counts m fs) xs)
    go true e = ap (λ (l : List Transition). cond (is_open fs x) (x ∷ l) l) e
    go false e = e

module _ (m : ℕ) (fs : List ℕ) where
  -- the choice among those of the first t transitions that count
  abbrev choice_of : ℕ → Option Step
  choice_of t = choice (those (counts m fs) (take t table))

  choice_next : (t : ℕ) → t < transition_count → choice_of (t + 1) ≡ cond (counts m fs (transition_at t)) (Some (kept (choice_of t) (transition_at t).target (transition_at t).priority)) (choice_of t)
  choice_next t h = rw (add-one, take-suc table t nowhere (omega (arith, table-checked.eighty))) (walk_more (counts m fs) (take t table) (transition_at t))

  -- after each transition the best so far is that choice
  best_is_choice : (t : ℕ) → t ≤ transition_count → as_step (best_of m fs t) ≡ choice_of t
  best_is_choice zero h = ap as_step (best_none m fs)
  best_is_choice (suc t) h =
      let a = transition_at t in
      rw (sym (add-one t))
      (ap as_step (best-more m fs t h)
      ∙ step_passed m fs (best_of m fs t) a
      ∙ ap (λ (s : Option Step). cond (counts m fs a) (Some (kept s a.target a.priority)) s) (best_is_choice t (omega arith))
      ∙ sym (choice_next t h))

  -- the theorem: the walk over the 80 transitions is the step in use
  pub plain_is_next : plain_step m fs ≡ next_step m fs
  unfolding plain_step next_step
  plain_is_next =
      ap (cond (refuses m fs) refused)
      (ap (told m) (sym (best-all m fs transition_count (omega arith)))
      ∙ told_or_stays m (best_of m fs transition_count)
      ∙ ap (λ (s : Option Step). unwrap_or s (stays m)) (best_is_choice transition_count (omega arith))
      ∙ choice_or_stays m (those (counts m fs) (take transition_count table))
      ∙ ap (λ (l : List Transition). choose m (those (counts m fs) l)) (take_all transition_count table (omega (arith, table-checked.eighty)))
      ∙ sym (ap (choose m) (counted m fs table)))
