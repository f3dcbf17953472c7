-- TWO VALUES THAT STAND FOR ONE CALL ARE THE SAME, so the contract of `asked_by` fixes its answer.
use mathlib.Core.List.{List}
use mathlib.Core.Path.{◌≡◌, refl, sym, ap, ◌∙◌}
use Prim.Native.Nat.{ℕ}
use Rattle.replay.specs.Demand3.{Call, op, back}
use Rattle.rules.specs.Deeds.{Deed, flags, position, authority, danger, clear}
use Rattle.rules.specs.Rules.{Op, request, release, on, sos}
use Rattle.rules.specs.declared.deeds.Deed.{Deed as Said}
use Rattle.rules.specs.declared.deeds.Deed.TheVariants.{Flags, Position, Authority, Danger, Clear}
use Rattle.records.specs.Asked.{meant_by}
use Rattle.records.specs.declared.asked.Asked.{Asked}
use Rattle.records.specs.declared.asked.Asked.TheVariants.{Request, Release, On, Sos, StepBack}

-- the deed that was said, and the value that was asked for
said : Deed → Said
said (flags fs) = Flags
said (position front rear) = Position front rear
said (authority end) = Authority end
said (danger location) = Danger location
said (clear other) = Clear other

asked : Call Op → Asked
asked (op (request loco bytes)) = Request loco bytes
asked (op (release loco ticket)) = Release loco ticket
asked (op (on loco ticket deed)) = On loco ticket (said deed)
asked (op (sos loco2 ticket2 loco1 ticket1 grid)) = Sos loco2 ticket2 loco1 ticket1 grid
asked (back k) = StepBack k

told_again : (a : Asked) (fs : List ℕ) → asked (meant_by a fs) ≡ a
unfolding asked said
told_again (Request loco bytes) fs = refl
told_again (Release loco ticket) fs = refl
told_again (On loco ticket Flags) fs = refl
told_again (On loco ticket (Position front rear)) fs = refl
told_again (On loco ticket (Authority end)) fs = refl
told_again (On loco ticket (Danger location)) fs = refl
told_again (On loco ticket (Clear other)) fs = refl
told_again (Sos loco2 ticket2 loco1 ticket1 grid) fs = refl
told_again (StepBack k) fs = refl

pub asked-once : (a b : Asked) (fs : List ℕ) → meant_by a fs ≡ meant_by b fs → a ≡ b
asked-once a b fs e = sym (told_again a fs) ∙ ap asked e ∙ told_again b fs
