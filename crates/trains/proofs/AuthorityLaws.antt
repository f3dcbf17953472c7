-- Laws of the end of authority.
use Rattle.std.specs.Prelude.{Option, None, Some}
use Prim.Native.Nat.{ℕ, suc, min, ◌+◌, ◌-◌, ◌≤◌, ◌<◌}
use mathlib.Core.Bool.{Bool, true, false, cond}
use mathlib.Core.List.Memᴰ
use mathlib.Core.List.{List, [], ◌∷◌, ◌++◌, Memᴰ}
use mathlib.Core.Logic.{⊎_elim, ◌⊎◌, inl, inr}
use mathlib.Core.Path.{◌≡◌, refl, ap}
use native.Mathlib.Decide.{dec_lt}
use native.Mathlib.Numerals.{add-one}
use native.Mathlib.Omega.{arith}
use borrow.Author.Tests.{eq-eqb}
use Rattle.transitions.specs.Names.{OV}
use Rattle.trains.specs.declared.record.Order.{Order}
use Rattle.trains.specs.declared.record.Train.{Train}
use Rattle.trains.specs.Authority.{nearer, nearest, order_stop, order_stops, danger_stop, end_with, end_from, end_of}
use Rattle.kinds.specs.Kinds.{same_ticket}
use Rattle.trains.specs.Record.{no_ticket, order_at}

-- ---- for the loop over a train's orders

-- one order more is looked at
pub nearest-step : (end i e : ℕ) (os : List Order) → i < e
    → nearest (nearer end (order_stop (order_at os i))) (order_stops os (i + 1) (e - (i + 1))) ≡ nearest end (order_stops os i (e - i))
unfolding nearest order_stops
nearest-step end i e os h = let z : e - i ≡ suc (e - (i + 1)) = omega arith in rw (z, add-one)

-- no order is left
pub nearest-end : (end i e : ℕ) (os : List Order) → e ≤ i → nearest end (order_stops os i (e - i)) ≡ end
unfolding nearest order_stops
nearest-end end i e os h = let z : e - i ≡ 0 = omega arith in rw z

-- ---- the end of authority

-- none while none is granted
pub none-granted : (t : Train) → t.track.granted ≡ None → end_of t ≡ None
unfolding end_with
none-granted t e = ap (end_with t) e

-- else there is one
pub granted-end : (t : Train) (x : ℕ) → t.track.granted ≡ Some x → end_of t ≡ Some (end_from t x)
unfolding end_with
granted-end t x e = ap (end_with t) e

-- the end is not beyond what is granted
pub not_beyond_granted : (end : ℕ) (ps : List (Option ℕ)) → nearest end ps ≤ end
unfolding nearest nearer
not_beyond_granted end [] = omega arith
not_beyond_granted end (None ∷ ps) = not_beyond_granted end ps
not_beyond_granted end (Some x ∷ ps) = omega (arith, not_beyond_granted (min end x) ps)

nearer-stop : (end x : ℕ) (p : Option ℕ) → Some x ≡ p → nearer end p ≤ x
unfolding nearer
nearer-stop end x None e = let z : ◌≡◌ {A = ℕ} 0 1 = cc in absurd (omega arith)
nearer-stop end x (Some y) e = let z : x ≡ y = cc in omega arith

-- nor beyond any stop
pub none-nearer : (end x : ℕ) (ps : List (Option ℕ)) → Memᴰ (Some x) ps → nearest end ps ≤ x
unfolding nearest
none-nearer end x [] m = absurd (Memᴰ.not-nil m)
none-nearer end x (p ∷ ps) m =
    ⊎_elim
    (λ e. omega (arith, not_beyond_granted (nearer end p) ps, nearer-stop end x p e))
    (λ n. none-nearer (nearer end p) x ps n)
    (Memᴰ.cases_cons m)

-- what was the nearer of an end and a stop is one of the two
nearer-one : (end e : ℕ) (p : Option ℕ) (ps : List (Option ℕ)) → (e ≡ nearer end p) ⊎ Memᴰ (Some e) ps → (e ≡ end) ⊎ Memᴰ (Some e) (p ∷ ps)
unfolding nearer
nearer-one end e p ps (inr m) = inr (Memᴰ.tail m)
nearer-one end e None ps (inl q) = inl q
nearer-one end e (Some x) ps (inl q) = of (dec_lt x end)
  where
    of : Dec (x < end) → (e ≡ end) ⊎ Memᴰ (Some e) (Some x ∷ ps)
    of (yes h) = let z : e ≡ x = omega arith in inr (Memᴰ.head (ap Some z))
    of (no h) = inl (omega arith)

-- the end is what is granted, or one of the stops
pub one_of_those : (end : ℕ) (ps : List (Option ℕ)) → (nearest end ps ≡ end) ⊎ Memᴰ (Some (nearest end ps)) ps
unfolding nearest
one_of_those end [] = inl refl
one_of_those end (p ∷ ps) = nearer-one end (nearest (nearer end p) ps) p ps (one_of_those (nearer end p) ps)

-- ---- what does not count

-- a bare order stops nowhere
pub bare_stop : (o : Order) → o.limit ≡ None → order_stop o ≡ None
unfolding order_stop
bare_stop o e = go (same_ticket o.other no_ticket)
  where
    go : (b : Bool) → cond b None o.limit ≡ None
    go true = refl
    go false = e

-- a stop that is nowhere does not count, wherever it stands
pub nowhere_out : (end : ℕ) (ps qs : List (Option ℕ)) → nearest end (ps ++ (None ∷ qs)) ≡ nearest end (ps ++ qs)
unfolding nearest nearer
nowhere_out end [] qs = refl
nowhere_out end (p ∷ ps) qs = nowhere_out (nearer end p) ps qs

-- in OV the danger location does not count
pub danger_in_override : (t : Train) → t.mode ≡ OV → danger_stop t ≡ None
unfolding danger_stop
danger_in_override t e = rw (eq-eqb t.mode OV e)
