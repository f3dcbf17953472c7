-- A ticket is never issued again: where calls follow on calls, each ticket of the later ones is above each of the earlier ones, step-backs or not.
use Prim.Native.Nat.{ℕ, ◌≤◌, ◌<◌}
use native.Mathlib.Omega.{arith}
use mathlib.Core.Path.{◌≡◌, sym, ap, ◌∙◌, subst}
use mathlib.Core.List.{List, [], ◌∷◌, ◌++◌, append_assoc, append-nil}
use lib.ListN.{length, get_or}
use Rattle.replay.specs.Rules.{Rules, Lawful}
use Rattle.replay.specs.Demand3.{History, Session, came_to, read_off, issue, tickets, Issued, counter_in, Starts, Made}
use Rattle.replay.specs.Kept.{Kept}
use Rattle.replay.proofs.Tickets.{issued-rest, issued_above, issued_below, issue-last}
use Rattle.replay.proofs.Demand.{demand3}

module _ (R : Rules) where
  -- what a history issues comes behind the tickets issued before it
  issued-behind : (h : History R) (ts : List ℕ) → read_off (issue R) ts h ≡ ts ++ tickets R h
  unfolding tickets read_off
  issued-behind [] ts = sym (append-nil ts)
  issued-behind (x ∷ h) ts =
      let one : List ℕ = issue R (came_to x.call x.answer) [] in
      issued-behind h (issue R (came_to x.call x.answer) ts)
      ∙ ap (λ (us : List ℕ). us ++ tickets R h) (issue-last R (came_to x.call x.answer) ts)
      ∙ append_assoc ts one (tickets R h)
      ∙ ap (λ (us : List ℕ). ts ++ us) (sym (issued-behind h one))

  -- the tickets of two histories, one behind the other
  tickets_join : (h g : History R) → tickets R (h ++ g) ≡ tickets R h ++ tickets R g
  unfolding tickets read_off
  tickets_join h g = go h []
    where
      go : (k : History R) (ts : List ℕ) → read_off (issue R) ts (k ++ g) ≡ read_off (issue R) ts k ++ tickets R g
      go [] ts = issued-behind g ts
      go (x ∷ k) ts = go k (issue R (came_to x.call x.answer) ts)

module _ {R : Rules} (S : Session R) (L : Lawful R) (K : Kept S) where
  open S use {Bytes}

  -- calls that follow on calls are calls
  pub made_join : (b m b' : Bytes) (h g : History R) → Made S b h m → Made S m g b' → Made S b (h ++ g) b'
  made_join b m b' [] g p q = subst (λ (x : Bytes). Made S x g b') (sym p) q
  made_join b m b' (x ∷ h) g p q = (p.0, p.1, made_join p.0 m b' h g p.2 q)

  -- every ticket issued is at most the counter now
  pub tickets_below : (b b' : Bytes) (h : History R) → Starts S b → Made S b h b' → (i : ℕ) → i < length (tickets R h) → get_or (tickets R h) i 0 ≤ counter_in S b'
  tickets_below b b' h start made i l = issued_below R (counter_in S b) (counter_in S b') (tickets R h) i (demand3 S L K b b' h start made).tickets_rise l

  -- the tickets of later calls rise from the counter that the earlier ones left
  pub tickets-after : (b m b' : Bytes) (h g : History R) → Starts S b → Made S b h m → Made S m g b' → Issued R (counter_in S m) (tickets R g) (counter_in S b')
  tickets-after b m b' h g start made more =
      issued-rest R (counter_in S b) (counter_in S m) (counter_in S b') (tickets R h) (tickets R g) (demand3 S L K b m h start made).tickets_rise
      (subst (λ (ts : List ℕ). Issued R (counter_in S b) ts (counter_in S b')) (tickets_join R h g)
      (demand3 S L K b b' (h ++ g) start (made_join b m b' h g made more)).tickets_rise)

  -- NO TICKET AGAIN: each that later calls issue is above each that was issued before
  pub tickets-later : (b m b' : Bytes) (h g : History R) → Starts S b → Made S b h m → Made S m g b'
      → (i j : ℕ) → i < length (tickets R h) → j < length (tickets R g) → get_or (tickets R h) i 0 < get_or (tickets R g) j 0
  tickets-later b m b' h g start made more i j k l =
      omega (
        arith,
        tickets_below b m h start made i k,
        issued_above R (counter_in S m) (counter_in S b') (tickets R g) j (tickets-after b m b' h g start made more) l,
      )
