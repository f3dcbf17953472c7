-- The operations that stand, played as calls from the same start: what the law of proofs/Played.antt speaks of.
use Rattle.std.specs.Prelude.{ℕ}
use mathlib.Core.{Path.◌≡◌, Bool.cond, List.List, List.[], List.◌∷◌, List.map}
use Rattle.replay.specs.Rules.{Rules}
use Rattle.replay.specs.Demand3.{Call, op, Exchange, Done, standing, History, tickets, Session, view_in, counter_in}

module _ (R : Rules) where
  open R use {Op, Reply, grants}

  -- the calls of a history, without their answers
  abbrev pub calls_of : History R → List (Call Op)
  calls_of h = map (λ (x : Exchange Op Reply). x.call) h

  -- operations that were taken, as calls once more
  abbrev pub as_calls : List (Done Op Reply) → List (Call Op)
  as_calls d = map (λ (x : Done Op Reply). op x.operation) d

  -- the tickets of the grants among these operations
  abbrev pub tickets_of : List (Done Op Reply) → List ℕ
  tickets_of [] = []
  tickets_of (x ∷ xs) = cond (grants x.operation) (x.ticket ∷ tickets_of xs) (tickets_of xs)

  -- No grant was stepped back: the tickets issued are those of the operations that stand.
  abbrev pub GrantsStand : History R → Type 0
  GrantsStand h = tickets R h ≡ tickets_of (standing h)

module _ {R : Rules} (S : Session R) where
  open S use {Bytes}

  -- The history g, which left the bytes b'', comes to the same as h, which left b'.
  pub record Same (h : History R) (b' : Bytes) (g : History R) (b'' : Bytes) : Type 0 where
    -- the same view
    pub view : view_in S b'' ≡ view_in S b'
    -- the same counter
    pub counter : counter_in S b'' ≡ counter_in S b'
    -- the same operations stand, with the same tickets and replies
    pub stands : standing g ≡ standing h
    -- and the same tickets were issued
    pub issued : tickets R g ≡ tickets R h
