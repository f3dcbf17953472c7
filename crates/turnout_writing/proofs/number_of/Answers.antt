-- `turnout_writing::number_of` meets its contract: it has the pieces as its digits, those of a distance where the speed has them.
use Prim.Native.Nat.{ℕ, ◌+◌, ◌*◌, ◌%◌, ◌<◌}
use mathlib.Core.Path.{sym, ap, ◌∙◌}
use mathlib.Core.List.{List}
use mathlib.Core.Bool.{Bool, cond}
use native.Mathlib.Omega.{arith}
use lib.ListN.{get_or}
use Rattle.numbers.proofs.NumberLaws.{number-byte, number_pair}
use Rattle.profiles.proofs.WritingLaws.{entry_number}
use Rattle.turnouts.specs.Turnouts.{turnout_profile, is_restricted}
use Rattle.turnouts.proofs.TurnoutLaws.{regular}
use Rattle.turnouts.proofs.PutLaws.{distances_of, joined_turnout}
use Rattle.turnout_writing.proofs.number_of.Goals as goal

-- the number by whether the speed is restricted
abbrev by : List ℕ → Bool → ℕ
by l b = cond b (get_or l 0 0 * 134217728 + distances_of l) (get_or l 0 0)

pub returns-then-not-is_restricted : goal.returns-then-not-is_restricted
returns-then-not-is_restricted c =
    let l : List ℕ = c.args.turnout.now in
    let known : (k : ℕ) → get_or l k 0 < 256 = λ k. omega (arith, c.type_inv.turnout k) in
    let speed = c.byte_at-speed.ensures ∙ number-byte l 0 (known 0) in
    entry_number turnout_profile regular l _ c.requires
    (c.from.ensures ∙ speed
    ∙ ap (by l) (sym c.if-not-is_restricted.true ∙ c.is_restricted.ensures ∙ ap is_restricted speed)
    ∙ sym (joined_turnout l known c.requires))

pub returns : goal.returns
returns c =
    let l : List ℕ = c.args.turnout.now in
    let known : (k : ℕ) → get_or l k 0 < 256 = λ k. omega (arith, c.type_inv.turnout k) in
    let speed = c.byte_at-speed.ensures ∙ number-byte l 0 (known 0) in
    let far = c.half_at-distance.ensures ∙ number_pair l 1 known in
    let near = c.half_at-release.ensures ∙ number_pair l 3 known in
    let wide = c.from-2.ensures ∙ speed in
    let both = c.from-3.ensures ∙ (λ i. far i % 32768 * 4096 + near i % 4096) in
    entry_number turnout_profile regular l _ c.requires
    ((λ i. wide i * 134217728 + both i)
    ∙ ap (by l) (sym c.if-not-is_restricted.false ∙ c.is_restricted.ensures ∙ ap is_restricted speed)
    ∙ sym (joined_turnout l known c.requires))
