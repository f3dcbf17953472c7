-- How the code holds the table: each transition by its bytes, those of a mode together.
use mathlib.Core.Path.{◌≡◌, refl, ap, ◌∙◌, sym}
use mathlib.Core.Bool.{Bool, true, false, cond, ◌&&◌, false≢true}
use mathlib.Core.List.{List, [], ◌∷◌, map}
use mathlib.Core.Logic.{⊎_elim}
use Prim.Native.Nat.{ℕ, zero, suc, ◌+◌, ◌-◌, ◌≤◌, ◌<◌}
use native.Mathlib.Numerals.{add-one}
use native.Mathlib.Omega.{arith}
use lib.Dec.{eqb, leb, ltb}
use lib.ListN.{length, get_or, take, drop, length-map, get_or-map, get_or-eq_default}
use lib.Seq.{slice}
use Rattle.std.proofs.lemmas.List.{drop-map, take-map, drop-take}
use borrow.Author.Tests.{leb-true, lt-ltb, le-ltb, ltb-true, le-leb, lt-leb, eq-eqb, ne_eqb}
use Rattle.transitions.specs.Names.{SB, IS, is_mode}
use Rattle.transitions.specs.Table.{Transition, transition_count, table, those, leaves_from}
use Rattle.transitions.specs.Held.{bytes_of, table_bytes, first_of, leaves_at, leaving_bytes, stated}
use Rattle.numbers.proofs.Logic.{both, lt_or_le}
use Rattle.transitions.proofs.Members.{more_pass, no_more}
use Rattle.transitions.proofs.Checked.{table-checked}

-- two functions that agree on each element of a list, as is computed once, agree at every index of it
same_at : {A B : Type 0} (f g : A → B) (xs : List A) (d : A) → map f xs ≡ map g xs → f d ≡ g d → (k : ℕ) → f (get_or xs k d) ≡ g (get_or xs k d)
same_at f g xs d e z k = sym (get_or-map f xs k d) ∙ ap (λ l. get_or l k (f d)) e ∙ ap (get_or (map g xs) k) z ∙ get_or-map g xs k d

-- the modes' numbers, with 0 before
abbrev numbers : ℕ → ℕ → List ℕ
numbers i zero = []
numbers i (suc n) = i ∷ numbers (suc i) n

number_at : (i n k : ℕ) → k < n → get_or (numbers i n) k 0 ≡ i + k
number_at i zero k h = absurd (omega arith)
number_at i (suc n) zero h = omega arith
number_at i (suc n) (suc k) h = number_at (suc i) n k (omega arith) ∙ omega arith

abbrev modes : List ℕ
modes = numbers 0 14

mode_at : (m : ℕ) → m ≤ IS → get_or modes m 0 ≡ m
mode_at m h = omega (arith, number_at 0 14 m (omega arith))

-- where the transitions of each mode start
unfoldable pub firsts : List ℕ
firsts = map first_of modes

first-none : first_of 0 ≡ 0
unfolding first_of table
first-none = refl

pub first_at_lem : (starts : List ℕ) → starts ≡ firsts → (m : ℕ) → m ≤ IS → get_or starts m 0 ≡ first_of m
unfolding firsts
first_at_lem starts e m h =
    ap (λ (l : List ℕ). get_or l m 0) e
    ∙ ap (get_or (map first_of modes) m) (sym first-none)
    ∙ get_or-map first_of modes m 0
    ∙ ap first_of (mode_at m h)

-- the starts do not fall, and lie in the table; behind the last mode stands nothing
lower : (m n : ℕ) → m ≤ n → (a : Transition) → ltb a.leaves m ≡ true → ltb a.leaves n ≡ true
lower m n h a e = lt-ltb a.leaves n (omega (arith, ltb-true a.leaves m e))

pub starts_rise : (m n : ℕ) → m ≤ n → first_of m ≤ first_of n
unfolding first_of
starts_rise m n h = more_pass (λ a. ltb a.leaves m) (λ a. ltb a.leaves n) (lower m n h) table

pub starts_in : (m : ℕ) → first_of m ≤ transition_count
unfolding first_of
starts_in m = omega (arith, no_more (λ a. ltb a.leaves m) table, table-checked.eighty)

first-one : first_of SB ≡ 0
unfolding first_of table
first-one = refl

last-start : first_of (IS + 1) ≡ transition_count
unfolding first_of table
last-start = refl

pub start-behind : (m : ℕ) → IS < m → transition_count ≡ first_of m
start-behind m h = omega (arith, last-start, starts_rise (IS + 1) m (omega arith), starts_in m)

-- between two starts stand the transitions of a mode
abbrev leaving : ℕ → List Transition
leaving m = those (leaves_from m) table

abbrev stretch : ℕ → List Transition
stretch m = slice (first_of m) (first_of (suc m)) table

lines : map leaving modes ≡ map stretch modes
unfolding first_of table
lines = refl

line-none : leaving 0 ≡ stretch 0
unfolding first_of table
line-none = refl

pub line : (m : ℕ) → m ≤ IS → those (leaves_from m) table ≡ slice (first_of m) (first_of (m + 1)) table
line m h =
    let e = mode_at m h in
    ap leaving (sym e) ∙ same_at leaving stretch modes 0 lines line-none m ∙ ap stretch e ∙ ap (λ n. slice (first_of m) (first_of n) table) (sym (add-one m))

-- none passes a test where none at any index does
none_pass : (p : Transition → Bool) (xs : List Transition) → ((t : ℕ) → get_or (map p xs) t false ≡ false) → those p xs ≡ []
none_pass p [] h = refl
none_pass p (x ∷ xs) h = rw (h 0) (none_pass p xs (λ t. h (suc t)))

-- no transition, for the indexes that the table does not have
abbrev pub nowhere : Transition
nowhere = record { leaves = 0; target = 0; conditions = []; priority = 0 }

-- transition t of the table, counted from 0
abbrev pub transition_at : ℕ → Transition
transition_at t = get_or table t nowhere

pub map_at : {B : Type 0} (f : Transition → B) (d : B) (xs : List Transition) (t : ℕ) → t < length xs → get_or (map f xs) t d ≡ f (get_or xs t nowhere)
map_at f d [] t h = absurd (omega arith)
map_at f d (x ∷ xs) zero h = refl
map_at f d (x ∷ xs) (suc t) h = map_at f d xs t (omega arith)

pub bytes_at : (t : ℕ) → t < transition_count → get_or table_bytes t [] ≡ bytes_of (transition_at t)
unfolding table_bytes
bytes_at t h = map_at bytes_of [] table t (omega (arith, table-checked.eighty))

-- a transition's bytes state its conditions
all-stated : map (λ (a : Transition). stated (bytes_of a)) table ≡ map (λ (a : Transition). a.conditions) table
unfolding table
all-stated = refl

-- those that pass a test: where two functions agree on all, they agree on these
among_agree : {B : Type 0} (p : Transition → Bool) (f g : Transition → B) (xs : List Transition) → map f xs ≡ map g xs → map f (those p xs) ≡ map g (those p xs)
among_agree p f g [] e = refl
among_agree p f g (x ∷ xs) e = let rest : map f xs ≡ map g xs = cc in go (p x) (among_agree p f g xs rest)
  where
    go : (b : Bool) → map f (those p xs) ≡ map g (those p xs) → map f (cond b (x ∷ those p xs) (those p xs)) ≡ map g (cond b (x ∷ those p xs) (those p xs))
    go true k = let here : f x ≡ g x = cc in cc
    go false k = k

pub stated_among : (p : Transition → Bool) (t : ℕ) → stated (bytes_of (get_or (those p table) t nowhere)) ≡ (get_or (those p table) t nowhere).conditions
stated_among p =
    let stating = λ (a : Transition). stated (bytes_of a) in
    let named = λ (a : Transition). a.conditions in
    same_at stating named (those p table) nowhere (among_agree p stating named table all-stated) refl

-- so do those of them behind target and priority that are not zero
abbrev pub nonzero : List ℕ → List ℕ
nonzero [] = []
nonzero (n ∷ ns) = cond (eqb n 0) (nonzero ns) (n ∷ nonzero ns)

all_named : map (λ (a : Transition). nonzero (drop 2 (bytes_of a))) table ≡ map (λ (a : Transition). a.conditions) table
unfolding table
all_named = refl

pub named_at : (t : ℕ) → nonzero (drop 2 (bytes_of (transition_at t))) ≡ (transition_at t).conditions
named_at = same_at (λ a. nonzero (drop 2 (bytes_of a))) (λ a. a.conditions) table nowhere all_named refl

-- transition t stands among those of the mode that it leaves
abbrev stands : ℕ → Bool
stands t = leb (first_of (transition_at t).leaves) t && ltb t (first_of (suc (transition_at t).leaves))

all-stand : map stands (numbers 0 transition_count) ≡ map (λ _. true) (numbers 0 transition_count)
unfolding first_of table
all-stand = refl

stands-none : stands 0 ≡ true
unfolding first_of table
stands-none = refl

stand : (t : ℕ) → t < transition_count → (first_of (transition_at t).leaves ≤ t) × (t < first_of ((transition_at t).leaves + 1))
stand t h =
    let l = (transition_at t).leaves in
    let n : get_or (numbers 0 transition_count) t 0 ≡ t = omega (arith, number_at 0 transition_count t h) in
    let e = ap stands (sym n) ∙ same_at stands (λ _. true) (numbers 0 transition_count) 0 all-stand stands-none t in
    let k = both (leb (first_of l) t) (ltb t (first_of (suc l))) e in
    (leb-true (first_of l) t k.0, rw (add-one l) (ltb-true t (first_of (suc l)) k.1))

-- so transition t leaves mode m exactly where it stands from the first of m on and before the first of the next
module _ (m t : ℕ) where
  pub from_at : t < transition_count → leaves_at m t ≡ leaves_from m (transition_at t)
  from_at h = map_at (leaves_from m) false table t (omega (arith, table-checked.eighty))

  leaves-other : t < transition_count → ((transition_at t).leaves ≡ m → ⊥) → leaves_at m t ≡ false
  leaves-other h n = from_at h ∙ ne_eqb (transition_at t).leaves m n

  pub from-before : t < first_of m → leaves_at m t ≡ false
  from-before h =
      let k : t < transition_count = omega (arith, starts_in m) in
      leaves-other k (λ e. omega (arith, ap first_of e, (stand t k).0))

  behind : first_of (m + 1) ≤ t → leaves_at m t ≡ false
  behind h =
      ⊎_elim (λ k. leaves-other k (λ e. omega (arith, ap (λ n. first_of (n + 1)) e, (stand t k).1)))
      (λ k. get_or-eq_default (map (leaves_from m) table) false {n = t} (omega (arith, length-map table (leaves_from m), table-checked.eighty)))
      (lt_or_le t transition_count)

  among : first_of m ≤ t → t < first_of (m + 1) → leaves_at m t ≡ true
  among h k =
      let c : t < transition_count = omega (arith, starts_in (m + 1)) in
      let l = (transition_at t).leaves in
      let s = stand t c in
      from_at c
      ∙ eq-eqb l m
      (⊎_elim (λ low. absurd (omega (arith, starts_rise (l + 1) m (omega arith), s.1)))
      (λ high. ⊎_elim (λ up. absurd (omega (arith, starts_rise (m + 1) l (omega arith), s.0))) (λ down. omega arith) (lt_or_le m l)) (lt_or_le l m))

  pub from_start : first_of m ≤ t → ltb t (first_of (m + 1)) ≡ leaves_at m t
  from_start h =
      ⊎_elim (λ k. lt-ltb t (first_of (m + 1)) k ∙ sym (among h k)) (λ k. le-ltb t (first_of (m + 1)) k ∙ sym (behind k))
      (lt_or_le t (first_of (m + 1)))

  pub between : (leb (first_of m) t && ltb t (first_of (m + 1))) ≡ leaves_at m t
  between = ⊎_elim (λ h. rw (lt-leb (first_of m) t h) (sym (from-before h))) (λ h. rw (le-leb (first_of m) t h) (from_start h)) (lt_or_le t (first_of m))

  -- there is no mode above the last, and none with the number 0
  pub from-none : IS < m → leaves_at m t ≡ false
  from-none h = ⊎_elim (λ k. from-before (omega (arith, start-behind m h))) (λ k. behind (omega (arith, starts_in (m + 1)))) (lt_or_le t transition_count)

  pub no_mode_none : is_mode m ≡ false → leaves_at m t ≡ false
  unfolding is_mode
  no_mode_none h =
      ⊎_elim (λ low. behind (omega (arith, ap (λ n. first_of (n + 1)) {x = m} {y = 0} (omega arith), first-one)))
      (λ some. ⊎_elim from-none (λ k. absurd (false≢true (sym h ∙ simp (le-leb SB m some, le-leb m IS k)))) (lt_or_le IS m))
      (lt_or_le m SB)

-- those that leave a mode, as a part of the table that is lent
module _ (m : ℕ) where
  pub leaving_part : m ≤ IS → take (first_of (m + 1) - first_of m) (drop (first_of m) table_bytes) ≡ leaving_bytes m
  unfolding table_bytes leaving_bytes
  leaving_part h =
      let start = first_of m in
      let count = first_of (m + 1) - first_of m in
      let up : start + count ≡ first_of (m + 1) = omega (arith, starts_rise m (m + 1) (omega arith)) in
      ap (take count) (drop-map bytes_of start table)
      ∙ take-map bytes_of count (drop start table)
      ∙ ap (map bytes_of) (sym (drop-take start count table) ∙ ap (λ n. slice start n table) up ∙ sym (line m h))

  pub leaving_none : is_mode m ≡ false → [] ≡ leaving_bytes m
  unfolding leaving_bytes
  leaving_none h = ap (map bytes_of) (sym (none_pass (leaves_from m) table (λ t. no_mode_none m t h)))
