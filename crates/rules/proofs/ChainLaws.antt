-- Laws of a chain of checks: the two ways that each can go, what a chain without a ground says of its checks, and the ruling by its ground.
use mathlib.Core.Path.{◌≡◌, refl, sym, ap, ◌∙◌}
use mathlib.Core.Bool.{Bool, true, false, true≢false, false≢true, not, cond, ◌||◌}
use Prim.Native.Nat.{ℕ, suc}
use native.Mathlib.Omega.{arith}
use borrow.Author.Tests.{ne_eqb}
use lib.Dec.{eqb}
use Rattle.kinds.specs.declared.Ticket.{Ticket}
use Rattle.std.specs.Prelude.{Option, None, Some, ok_or}
use Rattle.std.specs.declared.result.Result.{Result}
use Rattle.std.specs.declared.result.Result.TheVariants.{Ok, Err}
use Rattle.std.specs.Result.{IsErrAnd}
use Rattle.std.proofs.lemmas.Result.{err_from_is_err_and}
use Rattle.kinds.specs.Kinds.{loco_in_range}
use Rattle.rules.specs.declared.refusals.Refusal.{Refusal}
use Rattle.rules.specs.declared.refusals.Refusal.TheVariants.{BadLoco, NoLiveTrain}
use Rattle.rules.specs.{declared.named.Live.Live, declared.named.Named.Named as NamedSaid, declared.ruling.Answer.Answer}
use Rattle.rules.specs.{Ruling.Ruling, Refusals.number_of, Named.name_ground, Named.name_answer}
use Rattle.rules.specs.Meant.{name_of, named_meant, live_train, ruling_meant}
use Rattle.rules.specs.Ruling.{when, unless, refused_with, refused, ruled}

-- a check that gives its ground, and one that passes on
pub stops : (test : Bool) (ground next : ℕ) → test ≡ true → ground ≡ when test ground next
unfolding when
stops test ground next e = sym (λ i. cond (e i) ground next)

pub goes_on_lem : (test : Bool) (ground next : ℕ) → test ≡ false → next ≡ when test ground next
unfolding when
goes_on_lem test ground next e = sym (λ i. cond (e i) ground next)

-- the same of a check that code makes by `!f()`, where f's result is the test
pub stops-unless : (r test : Bool) (ground next : ℕ) → r ≡ test → not r ≡ true → ground ≡ unless test ground next
unfolding unless
stops-unless true test ground next e t = absurd (false≢true t)
stops-unless false test ground next e t = λ i. cond (e i) next ground

pub goes_on-unless : (r test : Bool) (ground next : ℕ) → r ≡ test → not r ≡ false → next ≡ unless test ground next
unfolding unless
goes_on-unless true test ground next e t = λ i. cond (e i) next ground
goes_on-unless false test ground next e t = absurd (true≢false t)

-- a chain that gives no ground has passed its first check, and gives none after it
pub passed : (test : Bool) (ground next : ℕ) → when test (suc ground) next ≡ 0 → (test ≡ false) × (next ≡ 0)
unfolding when
passed true ground next e = absurd (omega arith)
passed false ground next e = (refl, e)

pub passed-unless : (test : Bool) (ground next : ℕ) → unless test (suc ground) next ≡ 0 → (test ≡ true) × (next ≡ 0)
unfolding unless
passed-unless true ground next e = (refl, e)
passed-unless false ground next e = absurd (omega arith)

-- a check of two trains that both pass
pub both : (a b : Bool) → (not a || not b) ≡ false → (a ≡ true) × (b ≡ true)
both true true e = (refl, refl)
both true false e = absurd (true≢false e)
both false b e = absurd (true≢false e)

-- ---- rulings

-- a ground refuses, and where there is none the operation does what it does
pub refuses : (counter : Ticket) (g ground : ℕ) (done : Ruling) → suc g ≡ ground → refused counter (suc g) ≡ ruled counter ground done
unfolding ruled
refuses counter g ground done e =
    sym (λ i. cond (ne_eqb (suc g) 0 (λ z. omega arith) i) done (refused counter (suc g)))
    ∙ ap (λ (n : ℕ). cond (eqb n 0) done (refused counter n)) e

pub allows : (counter : Ticket) (ground : ℕ) (done : Ruling) → 0 ≡ ground → done ≡ ruled counter ground done
unfolding ruled
allows counter ground done e = ap (λ (n : ℕ). cond (eqb n 0) done (refused counter n)) e

-- what the exit of a `?` gives: the refusal that it met
pub met : {T : Type 0} (r : Result T Refusal) (e : Refusal) → IsErrAnd r (λ y. y ≡ e) → r ≡ Err e
met r e h = let w = err_from_is_err_and r h in w.1 ∙ ap Err w.2

-- a name that is refused, and one that names a live train
pub named_refused : (counter : Ticket) (n : NamedSaid) (e : Refusal) (next : ℕ) (done : Ruling) → live_train n ≡ Err e
    → ruling_meant counter (Err e) ≡ ruled counter (name_ground (named_meant n) next) done
unfolding live_train name_ground unless ruled number_of
named_refused counter n e next done q = go (loco_in_range n.loco) n.live refl q
  where
    go : (b : Bool) (f : Option Live) → loco_in_range n.loco ≡ b → cond b (ok_or f NoLiveTrain) (Err BadLoco) ≡ Err e
        → ruling_meant counter (Err e) ≡ ruled counter (name_ground (name_of n.loco f) next) done
    go false None h q = let z : BadLoco ≡ e = cc in rw (h, ← z) refl
    go false (Some l) h q = let z : BadLoco ≡ e = cc in rw (h, ← z) refl
    go true None h q = let z : NoLiveTrain ≡ e = cc in rw (h, ← z) refl
    go true (Some l) h q = cc

pub named_live : (n : NamedSaid) (l : Live) (next : ℕ) → live_train n ≡ Ok l
    → (n.live ≡ Some l) × (name_ground (named_meant n) next ≡ next)
unfolding live_train name_ground unless
named_live n l next q = go (loco_in_range n.loco) n.live refl q
  where
    go : (b : Bool) (f : Option Live) → loco_in_range n.loco ≡ b → cond b (ok_or f NoLiveTrain) (Err BadLoco) ≡ Ok l
        → (f ≡ Some l) × (name_ground (name_of n.loco f) next ≡ next)
    go false f h q = cc
    go true None h q = cc
    go true (Some m) h q = let z : m ≡ l = cc in (ap Some z, rw h refl)

-- the same of an answer
pub answer_refused : (n : NamedSaid) (e : Refusal) (a : Answer) → live_train n ≡ Err e
    → refused_with (number_of e) ≡ name_answer (named_meant n).loco (named_meant n).live a
unfolding live_train unless number_of
answer_refused n e a q = go (loco_in_range n.loco) n.live refl q
  where
    go : (b : Bool) (f : Option Live) → loco_in_range n.loco ≡ b → cond b (ok_or f NoLiveTrain) (Err BadLoco) ≡ Err e
        → refused_with (number_of e) ≡ name_answer (name_of n.loco f).loco (name_of n.loco f).live a
    go false None h q = let z : BadLoco ≡ e = cc in rw (h, ← z) refl
    go false (Some l) h q = let z : BadLoco ≡ e = cc in rw (h, ← z) refl
    go true None h q = let z : NoLiveTrain ≡ e = cc in rw (h, ← z) refl
    go true (Some l) h q = cc

pub answer_live : (n : NamedSaid) (l : Live) (a : Answer) → live_train n ≡ Ok l
    → a ≡ name_answer (named_meant n).loco (named_meant n).live a
unfolding live_train unless
answer_live n l a q = go (loco_in_range n.loco) n.live refl q
  where
    go : (b : Bool) (f : Option Live) → loco_in_range n.loco ≡ b → cond b (ok_or f NoLiveTrain) (Err BadLoco) ≡ Ok l
        → a ≡ name_answer (name_of n.loco f).loco (name_of n.loco f).live a
    go false f h q = cc
    go true None h q = cc
    go true (Some m) h q = rw h refl

-- no ground has the number 0
pub numbered : (e : Refusal) → eqb (number_of e) 0 ≡ false
unfolding number_of
numbered e = grind arith

-- a refusal of code whose number is the ground
pub refuses_by : (counter : Ticket) (e : Refusal) (ground : ℕ) (done : Ruling) → number_of e ≡ ground
    → refused counter (number_of e) ≡ ruled counter ground done
unfolding ruled
refuses_by counter e ground done h = rw (← h, numbered e) refl
