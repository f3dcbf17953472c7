-- `numbers::copy` meets its contract: as many bytes as there are and have room are stored, in one go.
use Prim.Native.Nat.{ℕ, ◌-◌, min}
use mathlib.Core.List.{List}
use mathlib.Core.Logic.{⊎_elim, inl, inr}
use mathlib.Core.Path.{◌≡◌, sym, ap, ◌∙◌}
use native.Mathlib.Omega.{arith}
use lib.ListN.{length, take, drop, length-take, length-drop}
use lib.Seq.{sets}
use Rattle.std.proofs.lemmas.List.{take-take}
use Rattle.numbers.proofs.CopyLaws.{sets_part, sets_most}
use Rattle.numbers.proofs.Logic.{lt_or_le}
use Rattle.numbers.proofs.copy.Goals as goal
use Rattle.numbers.proofs.copy.Goals.{else-start-from-via-then-start-from+else-at-to, else-start-from-via-else-start-from}

-- of plain numbers: the bytes that are stored are the first m of those that are to be copied, and there are no more, or no more have room
copied : (to from : List ℕ) (start n at m k : ℕ) → k ≡ m → m ≡ min (min n (length from - start)) (length to - at)
    → sets to at (take k (drop start from)) ≡ sets to at (take n (drop start from))
copied to from start n at m k e f =
    let v : List ℕ = take n (drop start from) in
    let part : length v ≡ min n (length from - start) = length-take n (drop start from) ∙ ap (min n) (length-drop start from) in
    ap (λ (j : ℕ). sets to at (take j (drop start from))) e
    ∙ ap (sets to at) (sym (take-take m n (drop start from) (omega arith)))
    ∙ sets_most to v at m (⊎_elim (λ l. inr (omega arith)) (λ l. inl (omega arith)) (lt_or_le (length to - at) (length v)))

pub returns-then-at-to : goal.returns-then-at-to
returns-then-at-to c =
    let a = c.args in
    let p = c.copy_from_slice.ensures in
    let most : c.min-most.result ≡ min (min a.n (length a.from.now - a.start)) (length a.to.now - a.at) =
    c.min-most.ensures ∙ ap (λ (j : ℕ). min j (length a.to.now - a.at)) c.min.ensures in
    sets_part a.to.now _ _ a.at _ p.after (omega (arith, length-take {A = ℕ}, length-drop {A = ℕ})) (omega arith)
    ∙ copied a.to.now a.from.now a.start a.n a.at c.min-most.result _ (omega arith) most

pub returns-else-start-from : goal.returns-else-start-from
returns-else-start-from c =
    let a = c.args in
    let v : List ℕ = take a.n (drop a.start a.from.now) in
    elim c.else-start-from.branch [
      | else-start-from-via-then-start-from+else-at-to w ↦ sets_most a.to.now v a.at 0 (inr (omega arith))
      | else-start-from-via-else-start-from w ↦ sets_most a.to.now v a.at 0 (inl (omega (arith, length-take {A = ℕ}, length-drop {A = ℕ})))
    ]
