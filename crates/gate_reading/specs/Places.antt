-- What the place of a refused gate read tells, said by itself: the fields that are judged, where each stands and what is allowed in it, and which of
-- them is the first that is not allowed. `distance` is the width of a gate's distance.
use Rattle.std.specs.Prelude.{◌≡◌, List, ℕ, ◌+◌, ◌*◌, ◌<◌, ◌≤◌}
use Rattle.numbers.specs.Fields.{field}
use Rattle.gates.specs.Gates.{gate_bits, number_at, suffix_at, class_at, whistle_at, last_number, last_suffix, last_class, last_whistle}

-- the fields of a gate that are judged, in the order of the sub-packet
pub data Judged : Type 0 where
  number : Judged
  suffix : Judged
  class : Judged
  whistle : Judged

-- where such a field starts in its gate, and its width
unfoldable pub start_of : ℕ → Judged → ℕ
start_of distance number = number_at distance
start_of distance suffix = suffix_at distance
start_of distance class = class_at distance
start_of distance whistle = whistle_at distance

unfoldable pub width_of : Judged → ℕ
width_of number = 10
width_of suffix = 3
width_of class = 3
width_of whistle = 2

-- the least and the greatest value that is allowed
unfoldable pub least_of : Judged → ℕ
least_of number = 1
least_of suffix = 0
least_of class = 0
least_of whistle = 0

unfoldable pub most_of : Judged → ℕ
most_of number = last_number
most_of suffix = last_suffix
most_of class = last_class
most_of whistle = last_whistle

abbrev pub Allowed : Judged → ℕ → Type 0
Allowed f value = (least_of f ≤ value) × (value ≤ most_of f)

-- where such a field of gate i starts in the sub-packet; gates are counted from 0, and the first of them starts at bit p
abbrev pub place_of : ℕ → ℕ → ℕ → Judged → ℕ
place_of distance p i f = p + gate_bits distance * i + start_of distance f

-- its value there
abbrev pub value_of : ℕ → List ℕ → ℕ → ℕ → Judged → ℕ
value_of distance s p i f = field s (place_of distance p i f) (width_of f)

-- of n gates, the first of which starts at bit p: a judged field starts at q and is not allowed, and each that starts before it is allowed
pub record FirstWrong (distance : ℕ) (s : List ℕ) (p n q : ℕ) : Type 0 where
  pub gate : ℕ
  pub judged : Judged
  pub there : gate < n
  pub place : q ≡ place_of distance p gate judged
  pub wrong : Allowed judged (value_of distance s p gate judged) → ⊥
  pub before : (i : ℕ) (f : Judged) → place_of distance p i f < q → Allowed f (value_of distance s p i f)
