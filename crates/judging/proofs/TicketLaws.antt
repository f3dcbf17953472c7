-- The next ticket as the rules have it.
use Rattle.std.specs.Prelude.{Bool, true, false, cond, suc, ltb, None, Some}
use mathlib.Core.Path.{◌≡◌, refl}
use Rattle.kinds.specs.declared.Ticket.{Ticket}
use Rattle.kinds.specs.Kinds.{last_ticket, is_above, next_ticket}
use Rattle.rules.specs.Registering.{ticket_of, ticket_for}

-- there is none after the last
pub last_one : (c : Ticket) → next_ticket c ≡ None → is_above (ticket_of last_ticket) c ≡ false
unfolding next_ticket
last_one c q = go (ltb c.0 last_ticket) q
  where
    go : (b : Bool) → cond b (Some (ticket_of (suc c.0))) None ≡ None → b ≡ false
    go true h = cc
    go false h = refl

-- where there is one, it is the one that a grant takes
pub one_more : (c t : Ticket) → next_ticket c ≡ Some t → (is_above (ticket_of last_ticket) c ≡ true) × (t ≡ ticket_for c)
unfolding next_ticket ticket_for
one_more c t q = go (ltb c.0 last_ticket) q
  where
    go : (b : Bool) → cond b (Some (ticket_of (suc c.0))) None ≡ Some t → (b ≡ true) × (t ≡ ticket_of (suc c.0))
    go true h = (refl, cc)
    go false h = cc
