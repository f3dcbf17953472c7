-- What the mode step (`next_step`) promises, law by law. Each law speaks of every number as the mode and all bytes as the flags.
use mathlib.Core.Path.{◌≡◌, refl, ap, ◌∙◌, sym}
use mathlib.Core.Bool.{Bool, true, false}
use mathlib.Core.List.{List, [], Memᴰ}
use mathlib.Core.Logic.{⊎_elim, ◌↔◌}
use Prim.Native.Nat.{ℕ, ◌≤◌, ◌<◌}
use native.Mathlib.Omega.{arith}
use lib.ListN.{length}
use borrow.Author.Tests.{eq-eqb, eqb-true}
use Rattle.modes.specs.declared.Step.{Step}
use Rattle.numbers.proofs.Logic.{lt_or_le}
use Rattle.transitions.specs.Names.{SB, IS}
use Rattle.transitions.specs.Table.{Transition, table, those, leaves_from}
use Rattle.transitions.proofs.Members.{of-those, in_those, some, none, two_in, empty}
use Rattle.transitions.proofs.Checked.{Apart, apart-those, first_two, table-checked}
use Rattle.modes.specs.Next.{is_open, opens, best, winners, has_priority, lowest, tie_mark, stays, choose, refuses, out_of_range, next_step}
use Rattle.modes.proofs.Least.{least_below, least-one}
use Rattle.modes.proofs.Choosing.{some_winner, positive_best, choice_mode, choice_priority, choice_tie, choice_answer, choice_stays, mark-two, two-mark, mark-small}
use Rattle.modes.proofs.Stepping.{taken, next-refused, next_chosen}

-- an open transition of mode m: the table has it, it leaves m, and one of its conditions is set
pub record Open (m : ℕ) (flags : List ℕ) (a : Transition) : Type 0 where
  pub listed : Memᴰ a table
  pub leaves : a.leaves ≡ m
  pub set : is_open flags a ≡ true

is_open_lem : (m : ℕ) (flags : List ℕ) (a : Transition) → Memᴰ a (opens m flags) → Open m flags a
is_open_lem m flags a h =
    let o = of-those (is_open flags) a (those (leaves_from m) table) h in
    let l = of-those (leaves_from m) a table o.0 in
    record { listed = l.0; leaves = eqb-true a.leaves m l.1; set = o.1 }

is_among : (m : ℕ) (flags : List ℕ) (a : Transition) → Open m flags a → Memᴰ a (opens m flags)
is_among m flags a o =
    in_those (is_open flags) a (those (leaves_from m) table) (in_those (leaves_from m) a table o.listed (eq-eqb a.leaves m o.leaves)) o.set

-- no transition of mode m is open
abbrev pub NoneOpen : ℕ → List ℕ → Type 0
NoneOpen m flags = (a : Transition) → Open m flags a → ⊥

-- step s is by transition a
pub record By (s : Step) (a : Transition) : Type 0 where
  pub mode : s.mode ≡ a.target
  pub priority : s.priority ≡ a.priority

-- two open transitions, for two targets, have the priority of step s
pub record TwoShare (m : ℕ) (flags : List ℕ) (s : Step) : Type 0 where
  pub one : Transition
  pub other : Transition
  pub one_open : Open m flags one
  pub other_open : Open m flags other
  pub apart : one.target ≡ other.target → ⊥
  pub one_shares : one.priority ≡ s.priority
  pub other_shares : other.priority ≡ s.priority

module _ (m : ℕ) (flags : List ℕ) where
  -- the answer is 17 exactly on the three grounds of refusal, and 0 otherwise
  pub refused_exactly_on_its_grounds : ((next_step m flags).answer ≡ out_of_range) ↔ (refuses m flags ≡ true)
  refused_exactly_on_its_grounds = (
    λ e. go (refuses m flags) refl e,
    λ e. ap (λ (s : Step). s.answer) (sym (next-refused m flags e)),
  )
    where
      go : (b : Bool) → refuses m flags ≡ b → (next_step m flags).answer ≡ out_of_range → refuses m flags ≡ true
      go true e k = e
      go false e k =
          let z = ap (λ (s : Step). s.answer) (next_chosen m flags e) ∙ choice_answer m (opens m flags) in
          absurd (omega arith)

-- a mode and flags that are not refused
module _ (m : ℕ) (flags : List ℕ) (good : refuses m flags ≡ false) where
  by_choice : next_step m flags ≡ choose m (opens m flags)
  by_choice = next_chosen m flags good

  pub accepted_otherwise : (next_step m flags).answer ≡ 0
  accepted_otherwise = ap (λ (s : Step). s.answer) by_choice ∙ choice_answer m (opens m flags)

  priority-is : (next_step m flags).priority ≡ best (opens m flags)
  priority-is = ap (λ (s : Step). s.priority) by_choice ∙ choice_priority m (opens m flags)

  tie_is : (next_step m flags).tie ≡ tie_mark (length (winners (opens m flags)))
  tie_is = ap (λ (s : Step). s.tie) by_choice ∙ choice_tie m (opens m flags)

  mode-is : 0 < length (opens m flags) → (next_step m flags).mode ≡ lowest (winners (opens m flags))
  mode-is h = ap (λ (s : Step). s.mode) by_choice ∙ choice_mode m (opens m flags) h

  -- a transition of the best priority is open, and one that is open and of the step's priority is of the best
  of-winners : (a : Transition) → Memᴰ a (winners (opens m flags)) → Open m flags a × (a.priority ≡ (next_step m flags).priority)
  of-winners a h =
      let w = of-those (has_priority (best (opens m flags))) a (opens m flags) h in
      (is_open_lem m flags a w.0, eqb-true a.priority (best (opens m flags)) w.1 ∙ sym priority-is)

  in_winners : (a : Transition) → Open m flags a → a.priority ≡ (next_step m flags).priority → Memᴰ a (winners (opens m flags))
  in_winners a o e =
      in_those (has_priority (best (opens m flags))) a (opens m flags) (is_among m flags a o) (eq-eqb a.priority (best (opens m flags)) (e ∙ priority-is))

  winners-apart : Apart (winners (opens m flags))
  winners-apart =
      apart-those (has_priority (best (opens m flags))) (opens m flags)
      (apart-those (is_open flags) (those (leaves_from m) table) (apart-those (leaves_from m) table table-checked.targets))

  -- where any transition is open, the step is by one that is
  pub chosen_is_open : (a : Transition) → Open m flags a → (b : Transition) × Open m flags b × By (next_step m flags) b
  chosen_is_open a o =
      let h = some (opens m flags) (is_among m flags a o) in
      let w = least-one (λ (b : Transition). b.target) (winners (opens m flags)) (some_winner (opens m flags) h) in
      let k = of-winners w.0 w.1 in
      (w.0, k.0, record { mode = mode-is h ∙ w.2; priority = sym k.1 })

  -- no open transition has a better priority
  pub none_better : (a : Transition) → Open m flags a → (next_step m flags).priority ≤ a.priority
  none_better a o = rw priority-is (least_below (λ (b : Transition). b.priority) (opens m flags) a (is_among m flags a o))

  -- no open transition of the step's priority has a lower target
  pub none_lower : (a : Transition) → Open m flags a → a.priority ≡ (next_step m flags).priority → (next_step m flags).mode ≤ a.target
  none_lower a o e =
      rw (mode-is (some (opens m flags) (is_among m flags a o)))
      (least_below (λ (b : Transition). b.target) (winners (opens m flags)) a (in_winners a o e))

  none-among : NoneOpen m flags → opens m flags ≡ []
  none-among h = none (opens m flags) (λ a k. h a (is_open_lem m flags a k))

  -- the mode stays, with priority 0 and no tie, exactly when none is open
  pub stays_exactly_when_none_open : (next_step m flags ≡ stays m) ↔ NoneOpen m flags
  stays_exactly_when_none_open = (
    λ e a o.
        let h = some (opens m flags) (is_among m flags a o) in
        let p = positive_best (opens m flags) h (λ b k. (table-checked.transitions b (is_open_lem m flags b k).listed).priority.0) in
        omega (arith, priority-is, ap (λ (s : Step). s.priority) e),
    λ h. by_choice ∙ choice_stays m (opens m flags) (none-among h),
  )

  -- the tie mark is 1 exactly when two open transitions share the step's priority, and 0 otherwise
  pub tie_exactly_when_two : ((next_step m flags).tie ≡ 1) ↔ TwoShare m flags (next_step m flags)
  tie_exactly_when_two = (
    λ e.
        let w = first_two (winners (opens m flags)) (mark-two (length (winners (opens m flags))) (sym tie_is ∙ e)) winners-apart in
        let a = of-winners w.0 w.2 in
        let b = of-winners w.1 w.3 in
        record {
          one = w.0;
          other = w.1;
          one_open = a.0;
          other_open = b.0;
          apart = w.4 (a.0.leaves ∙ sym b.0.leaves);
          one_shares = a.1;
          other_shares = b.1;
        },
    λ t.
        tie_is
        ∙ two-mark (length (winners (opens m flags)))
        (two_in (winners (opens m flags)) (in_winners t.one t.one_open t.one_shares) (in_winners t.other t.other_open t.other_shares) t.apart),
  )

  pub tie_is_a_mark : (next_step m flags).tie ≤ 1
  tie_is_a_mark = rw tie_is (mark-small (length (winners (opens m flags))))

  -- the next mode is a mode
  pub next_is_a_mode : (SB ≤ (next_step m flags).mode) × ((next_step m flags).mode ≤ IS)
  next_is_a_mode =
      ⊎_elim
      (λ h.
      let w = least-one (λ (b : Transition). b.target) (winners (opens m flags)) (some_winner (opens m flags) h) in
      rw (mode-is h ∙ w.2) (table-checked.transitions w.0 (of-winners w.0 w.1).0.listed).target)
      (λ h.
      let t = taken m flags good in
      rw (ap (λ (s : Step). s.mode) (by_choice ∙ choice_stays m (opens m flags) (empty (opens m flags) h))) (t.low, t.high))
      (lt_or_le 0 (length (opens m flags)))
