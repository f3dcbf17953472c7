-- The choice among open transitions, one transition after the other.
use mathlib.Core.Path.{◌≡◌, refl, ap, ap₂, ◌∙◌, sym}
use mathlib.Core.Bool.{Bool, true, false, cond}
use mathlib.Core.List.{List, [], ◌∷◌, ◌++◌, append-nil, Memᴰ}
use mathlib.Core.Logic.{⊎_elim}
use Prim.Native.Nat.{ℕ, ◌≤◌, ◌<◌, min}
use native.Mathlib.Nat.{min-eq_left, min-eq_right}
use native.Mathlib.Omega.{arith}
use lib.ListN.{length, length-append}
use borrow.Author.Tests.{lt-ltb, le-ltb, eq-eqb, ne_eqb, eqb-true}
use Rattle.numbers.proofs.Logic.{lt_or_le}
use Rattle.std.specs.Prelude.{Option, None, Some}
use Rattle.std.specs.Option.{unwrap_or}
use Rattle.transitions.specs.Table.{Transition, those}
use Rattle.transitions.proofs.Members.{of-those, in_those, some, none}
use Rattle.modes.specs.declared.Step.{Step}
use Rattle.modes.specs.Next.{best, winners, has_priority, lowest, tie_mark, accepted, stays, choose}
use Rattle.modes.specs.Kept.{kept}
use Rattle.modes.proofs.Least.{least_below, least-one, least_more}

pub those-append : (p : Transition → Bool) (xs ys : List Transition) → those p (xs ++ ys) ≡ those p xs ++ those p ys
those-append p [] ys = refl
those-append p (x ∷ xs) ys = go (p x) (those-append p xs ys)
  where
    go : (b : Bool) → those p (xs ++ ys) ≡ those p xs ++ those p ys → cond b (x ∷ those p (xs ++ ys)) (those p (xs ++ ys)) ≡ cond b (x ∷ those p xs) (those p xs) ++ those p ys
    go true e = ap (λ (l : List Transition). x ∷ l) e
    go false e = e

-- some transition has the best priority, and none has a better one
pub some_winner : (xs : List Transition) → 0 < length xs → 0 < length (winners xs)
some_winner xs h =
    let w = least-one (λ a. a.priority) xs h in
    some (winners xs) (in_those (has_priority (best xs)) w.0 xs w.1 (eq-eqb w.0.priority (best xs) (sym w.2)))

none_better : (p : ℕ) (xs : List Transition) → p < best xs → those (has_priority p) xs ≡ []
none_better p xs h =
    none (those (has_priority p) xs) (λ a k.
    let o = of-those (has_priority p) a xs k in
    omega (arith, eqb-true a.priority p o.1, least_below (λ b. b.priority) xs a o.0))

-- the choice, where the best priority and the transitions that have it are known
chosen : (m : ℕ) (x : Transition) (xs : List Transition) (p : ℕ) (ws : List Transition) → best (x ∷ xs) ≡ p → those (has_priority p) (x ∷ xs) ≡ ws → choose m (x ∷ xs) ≡ accepted (lowest ws) p (tie_mark (length ws))
unfolding choose
chosen m x xs p ws e w =
    ap₂ (λ (ws : List Transition) (p : ℕ). accepted (lowest ws) p (tie_mark (length ws)))
    (ap (λ (q : ℕ). those (has_priority q) (x ∷ xs)) e ∙ w) e

-- one more open transition: the first, a better one, a worse one, one that shares the best priority
choose_one : (m : ℕ) (a : Transition) → choose m (a ∷ []) ≡ accepted a.target a.priority 0
choose_one m a = chosen m a [] a.priority (a ∷ []) refl (rw (eq-eqb a.priority a.priority refl))

module _ (m : ℕ) (x : Transition) (xs : List Transition) (a : Transition) where
  better : a.priority < best (x ∷ xs) → choose m (x ∷ (xs ++ (a ∷ []))) ≡ accepted a.target a.priority 0
  better h =
      chosen m x (xs ++ (a ∷ [])) a.priority (a ∷ [])
      (least_more (λ b. b.priority) x xs a ∙ min-eq_right (omega arith))
      (those-append (has_priority a.priority) (x ∷ xs) (a ∷ [])
      ∙ rw (none_better a.priority (x ∷ xs) h, eq-eqb a.priority a.priority refl))

  worse : best (x ∷ xs) < a.priority → choose m (x ∷ (xs ++ (a ∷ []))) ≡ choose m (x ∷ xs)
  worse h =
      chosen m x (xs ++ (a ∷ [])) (best (x ∷ xs)) (winners (x ∷ xs))
      (least_more (λ b. b.priority) x xs a ∙ min-eq_left (omega arith))
      (those-append (has_priority (best (x ∷ xs))) (x ∷ xs) (a ∷ []) ∙ rw (ne_eqb a.priority (best (x ∷ xs)) (λ e. omega arith)) (append-nil (winners (x ∷ xs))))
      ∙ sym (chosen m x xs (best (x ∷ xs)) (winners (x ∷ xs)) refl refl)

  equal : a.priority ≡ best (x ∷ xs) → choose m (x ∷ (xs ++ (a ∷ []))) ≡ accepted (min (lowest (winners (x ∷ xs))) a.target) a.priority 1
  equal h =
      chosen m x (xs ++ (a ∷ [])) (best (x ∷ xs)) (winners (x ∷ xs) ++ (a ∷ []))
      (least_more (λ b. b.priority) x xs a ∙ min-eq_left (omega arith))
      (those-append (has_priority (best (x ∷ xs))) (x ∷ xs) (a ∷ []) ∙ rw (eq-eqb a.priority (best (x ∷ xs)) h))
      ∙ last (winners (x ∷ xs)) (some_winner (x ∷ xs) (omega arith))
    where
      last : (ws : List Transition) → 0 < length ws → accepted (lowest (ws ++ (a ∷ []))) (best (x ∷ xs)) (tie_mark (length (ws ++ (a ∷ [])))) ≡ accepted (min (lowest ws) a.target) a.priority 1
      last [] k = absurd (omega arith)
      last (w ∷ ws) k =
          rw (least_more (λ b. b.target) w ws a, lt-ltb 1 (length (w ∷ (ws ++ (a ∷ [])))) (omega (arith, length-append ws (a ∷ []))), h)

-- priorities are at least 1, so a step by a transition has none of 0
abbrev pub Positive : List Transition → Type 0
Positive xs = (a : Transition) → Memᴰ a xs → 0 < a.priority

pub positive_best : (xs : List Transition) → 0 < length xs → Positive xs → 0 < best xs
positive_best xs h t =
    let w = least-one (λ a. a.priority) xs h in
    omega (arith, w.2, t w.0 w.1)

-- the step by one of these transitions, where there are any: it hangs on no mode
abbrev pub choice : List Transition → Option Step
choice [] = None
choice (a ∷ xs) = Some (choose 0 (a ∷ xs))

pub choice_or_stays : (m : ℕ) (xs : List Transition) → unwrap_or (choice xs) (stays m) ≡ choose m xs
unfolding choose
choice_or_stays m [] = refl
choice_or_stays m (a ∷ xs) = refl

choice_more : (xs : List Transition) (a : Transition) → choice (xs ++ (a ∷ [])) ≡ Some (kept (choice xs) a.target a.priority)
unfolding kept choose
choice_more [] a = ap (λ (s : Step). Some s) (choose_one 0 a)
choice_more (x ∷ xs) a =
    ap (λ (s : Step). Some s)
    (⊎_elim (λ h. rw (lt-ltb a.priority (best (x ∷ xs)) h) (better 0 x xs a h))
    (λ h. rw (le-ltb a.priority (best (x ∷ xs)) h)
    (⊎_elim (λ l. rw (ne_eqb a.priority (best (x ∷ xs)) (λ e. omega arith)) (worse 0 x xs a l))
    (λ l. rw (eq-eqb a.priority (best (x ∷ xs)) (omega arith)) (equal 0 x xs a (omega arith)))
    (lt_or_le (best (x ∷ xs)) a.priority)))
    (lt_or_le a.priority (best (x ∷ xs))))

-- one more transition that is tried: what a walk does at each turn
pub walk_more : (q : Transition → Bool) (xs : List Transition) (a : Transition) → choice (those q (xs ++ (a ∷ []))) ≡ cond (q a) (Some (kept (choice (those q xs)) a.target a.priority)) (choice (those q xs))
walk_more q xs a = ap choice (those-append q xs (a ∷ [])) ∙ go (q a)
  where
    go : (b : Bool) → choice (those q xs ++ cond b (a ∷ []) []) ≡ cond b (Some (kept (choice (those q xs)) a.target a.priority)) (choice (those q xs))
    go true = choice_more (those q xs) a
    go false = ap choice (append-nil (those q xs))

-- the numbers of a choice, and the choice among none
pub choice_mode : (m : ℕ) (xs : List Transition) → 0 < length xs → (choose m xs).mode ≡ lowest (winners xs)
unfolding choose
choice_mode m [] h = absurd (omega arith)
choice_mode m (x ∷ xs) h = refl

pub choice_priority : (m : ℕ) (xs : List Transition) → (choose m xs).priority ≡ best xs
unfolding choose
choice_priority m [] = refl
choice_priority m (x ∷ xs) = refl

pub choice_tie : (m : ℕ) (xs : List Transition) → (choose m xs).tie ≡ tie_mark (length (winners xs))
unfolding choose
choice_tie m [] = refl
choice_tie m (x ∷ xs) = refl

pub choice_answer : (m : ℕ) (xs : List Transition) → (choose m xs).answer ≡ 0
unfolding choose
choice_answer m [] = refl
choice_answer m (x ∷ xs) = refl

pub choice_stays : (m : ℕ) (xs : List Transition) → xs ≡ [] → choose m xs ≡ stays m
unfolding choose
choice_stays m xs e = ap (choose m) e

-- a tie mark is 1 for two or more, and 0 otherwise
pub mark-two : (n : ℕ) → tie_mark n ≡ 1 → 1 < n
mark-two n e = ⊎_elim (λ h. h) (λ h. let z : tie_mark n ≡ 0 = rw (le-ltb 1 n h) in omega arith) (lt_or_le 1 n)

pub two-mark : (n : ℕ) → 1 < n → tie_mark n ≡ 1
two-mark n h = rw (lt-ltb 1 n h)

pub mark-small : (n : ℕ) → tie_mark n ≤ 1
mark-small n = ⊎_elim (λ h. rw (lt-ltb 1 n h) (omega arith)) (λ h. rw (le-ltb 1 n h) (omega arith)) (lt_or_le 1 n)
