-- The first byte above 1, byte by byte; and where a flag at fault can stand.
use mathlib.Core.Path.{◌≡◌, sym, ap, ◌∙◌}
use mathlib.Core.Bool.{Bool, true, false, cond}
use mathlib.Core.List.{List}
use Prim.Native.Nat.{ℕ, zero, suc, ◌+◌, ◌≤◌, ◌<◌}
use native.Mathlib.Omega.{arith}
use borrow.Author.Tests.{lt-ltb, le-ltb}
use lib.Dec.{ltb}
use Rattle.numbers.specs.Numbers.{number_at}
use Rattle.modes.specs.Flags.{flag_count}
use Rattle.traces.specs.Entry.{flags_at, mode_after_at}
use Rattle.trace_files.specs.Reasons.{above_one_from, bad_flag}

module _ (e : List ℕ) (at : ℕ) where
  pub above_here : (k : ℕ) → 0 < k → 1 < number_at 1 e at → at ≡ above_one_from k e at
  unfolding above_one_from
  above_here zero some h = absurd (omega arith)
  above_here (suc k) some h = rw (lt-ltb 1 (number_at 1 e at) h)

  pub above_next : (k rest : ℕ) → k ≡ suc rest → number_at 1 e at ≤ 1 → above_one_from rest e (at + 1) ≡ above_one_from k e at
  unfolding above_one_from
  above_next k rest q h = sym (ap (λ (n : ℕ). above_one_from n e at) q ∙ ap (λ (b : Bool). cond b at (above_one_from rest e (at + 1))) (le-ltb 1 (number_at 1 e at) h))

  pub above_end : (k : ℕ) → k ≡ 0 → at ≡ above_one_from k e at
  unfolding above_one_from
  above_end k z = sym (ap (λ (n : ℕ). above_one_from n e at) z)

within : (k : ℕ) (e : List ℕ) (at : ℕ) → (at ≤ above_one_from k e at) × (above_one_from k e at ≤ at + k)
unfolding above_one_from
within zero e at = (omega arith, omega arith)
within (suc k) e at = of (ltb 1 (number_at 1 e at)) (within k e (at + 1))
  where
    of : (b : Bool) → (at + 1 ≤ above_one_from k e (at + 1)) × (above_one_from k e (at + 1) ≤ at + 1 + k)
        → (at ≤ cond b at (above_one_from k e (at + 1))) × (cond b at (above_one_from k e (at + 1)) ≤ at + suc k)
    of true r = (omega arith, omega arith)
    of false r = (omega (arith, r.0), omega (arith, r.1))

pub flag_within : (e : List ℕ) → (flags_at ≤ bad_flag e) × (bad_flag e ≤ mode_after_at)
unfolding bad_flag
flag_within e = within flag_count e flags_at
