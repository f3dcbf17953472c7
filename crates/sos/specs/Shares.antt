-- What the measures M2 to M6 of an SOS give to L1 and to L2. Locations are those reported when it is raised; the margin is in metres.
use Rattle.std.specs.Prelude.{cond, ℕ, ◌-◌, eqb, None, Some, Option}
use Rattle.trains.specs.{declared.record.Position.Position}
use Rattle.trains.specs.{declared.record.Train.Train}
use Rattle.sos.specs.declared.shares.Share.{Share}
use Rattle.sos.specs.declared.shares.Share.TheVariants.{Nothing, NoPosition, Order}

-- a limit at the train's own front
unfoldable pub own_front : Option Position → Share
own_front None = NoPosition
own_front (Some p) = Order (Some p.front)

-- a limit the margin behind a train's rear, not below 0
unfoldable pub behind : Option Position → ℕ → Share
behind None margin = NoPosition
behind (Some p) margin = Order (Some (p.rear - margin))

-- a measure that gives something, and the measures after it
abbrev pub by_measure : ℕ → ℕ → Share → Share → Share
by_measure measure m this others = cond (eqb measure m) this others

-- M4: L1 to its own front. M6: bare
unfoldable pub share_of_l1 : ℕ → Train → Share
share_of_l1 measure l1 =
    by_measure measure 4 (own_front l1.track.position)
    (by_measure measure 6 (Order None)
    Nothing)

-- M2: L2 to the rear of the train ahead less the margin. M3 and M4: L2 to its own front. M5 and M6: bare
unfoldable pub share_behind : ℕ → Option Position → Option Position → ℕ → Share
share_behind measure ahead own margin =
    by_measure measure 2 (behind ahead margin)
    (by_measure measure 3 (own_front own)
    (by_measure measure 4 (own_front own)
    (by_measure measure 5 (Order None)
    (by_measure measure 6 (Order None)
    Nothing))))

-- what L2 gets, of an SOS between L1 and L2
abbrev pub share_of_l2 : ℕ → Train → Train → ℕ → Share
share_of_l2 measure l1 l2 margin = share_behind measure l1.track.position l2.track.position margin
