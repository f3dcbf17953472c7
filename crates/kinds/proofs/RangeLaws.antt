-- What the range tests mean.
use mathlib.Core.Path.{◌≡◌}
use mathlib.Core.Bool.{true, and-eq-true_iff}
use Prim.Native.Nat.{ℕ, ◌≤◌}
use lib.Dec.{leb}
use borrow.Author.Tests.{leb-true}
use Rattle.kinds.specs.Ranges.{one_to, is_position, last_location}

-- 1 to a last number
pub one-to : (last n : ℕ) → one_to last n ≡ true → (1 ≤ n) × (n ≤ last)
unfolding one_to
one-to last n e =
    let both = (and-eq-true_iff (leb 1 n) (leb n last)).0 e in
    (leb-true 1 n both.0, leb-true n last both.1)

-- a position's ends are locations, and its rear is not above its front
pub position-ends : (front rear : ℕ) → is_position front rear ≡ true → (front ≤ last_location) × (rear ≤ front)
unfolding is_position
position-ends front rear e =
    let both = (and-eq-true_iff (leb front last_location) (leb rear front)).0 e in
    (leb-true front last_location both.0, leb-true rear front both.1)
