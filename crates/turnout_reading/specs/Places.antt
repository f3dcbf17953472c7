-- What the place of a refused turnout read tells, said by itself: which speed is the first that is not allowed.
use Rattle.std.specs.Prelude.{◌≡◌, true, false, List, ℕ, ◌<◌}
use Rattle.numbers.specs.Fields.{field}
use Rattle.profiles.specs.{Profiles.first_at, Places.entry_at}
use Rattle.turnouts.specs.Turnouts.{turnout_profile, speed_bits, is_allowed}

-- where turnout i starts, which is where its speed does; turnouts are counted from 0, and the first of them starts at bit 13
abbrev pub speed_at : List ℕ → ℕ → ℕ
speed_at s i = entry_at turnout_profile s (first_at turnout_profile) i

-- its value there
abbrev pub speed_of : List ℕ → ℕ → ℕ
speed_of s i = field s (speed_at s i) speed_bits

-- of n turnouts: a speed starts at q and is not allowed, and each before it is
pub record FirstWrong (s : List ℕ) (n q : ℕ) : Type 0 where
  pub turnout : ℕ
  pub there : turnout < n
  pub place : q ≡ speed_at s turnout
  pub wrong : is_allowed (speed_of s turnout) ≡ false
  pub before : (i : ℕ) → i < turnout → is_allowed (speed_of s i) ≡ true
