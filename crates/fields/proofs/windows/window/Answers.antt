-- `fields::windows::window` meets its contract: eight bytes low byte first, swapped, are those high byte first.
use Prim.Native.Nat.{ℕ, ◌+◌, ◌-◌, ◌<◌, ◌≤◌}
use mathlib.Core.List.{List}
use mathlib.Core.Logic.{◌⊎◌, inl, inr}
use mathlib.Core.Path.{◌≡◌, ap, ◌∙◌}
use native.Mathlib.Omega.{arith}
use lib.ListN.{length, get_or, take, drop, length-take, length-drop, get_or-eq_default}
use lib.Seq.{get_or-take, get_or-drop}
use Rattle.std.specs.Int.{w64, from_be_bytes}
use Rattle.std.proofs.lemmas.Nat.{le_bytes_8}
use Rattle.numbers.proofs.FieldLaws.{Bytes}
use Rattle.numbers.proofs.Logic.{lt_or_le}
use Rattle.numbers.proofs.BytesLaws.{BytesFrom, number_of_8}
use Rattle.fields.proofs.windows.window.Goals as goal

-- of plain numbers: the eight bytes are there, and are bytes
module _ (s bs : List ℕ) (i : ℕ) (h : i + 8 ≤ length s) (e : bs ≡ take 8 (take (i + 8 - i) (drop i s))) where
  long : length bs ≡ 8
  long = omega (arith, ap length e, length-take 8 (take (i + 8 - i) (drop i s)), length-take (i + 8 - i) (drop i s), length-drop i s)

  from : BytesFrom s i 8 bs
  from k l =
      ap (λ (t : List ℕ). get_or t k 0) e ∙ get_or-take 8 (take (i + 8 - i) (drop i s)) k 0 l
      ∙ get_or-take (i + 8 - i) (drop i s) k 0 (omega arith) ∙ get_or-drop i s k 0

  bytes : Bytes s → Bytes bs
  bytes hs k = of (lt_or_le k 8)
    where
      of : (k < 8) ⊎ (8 ≤ k) → get_or bs k 0 < 256
      of (inl l) = omega (arith, from k l, hs (i + k))
      of (inr l) =
          let past : length bs ≤ k = omega (arith, long) in
          omega (arith, get_or-eq_default bs 0 past)

pub returns-then-i-s : goal.returns-then-i-s
returns-then-i-s c =
    let a = c.args in
    let bs : List ℕ = c.unwrap.result.now in
    let first = rw c.unwrap.ensures at c.first_chunk.ensures.cases in
    let e : bs ≡ take 8 (take (a.i + 8 - a.i) (drop a.i a.s.now)) = first.same in
    let hs : Bytes a.s.now = λ k. (c.type_inv.s k).fits in
    c.swap_bytes.ensures
    ∙ ap (from_be_bytes w64) (le_bytes_8 bs c.from_le_bytes.result (long a.s.now bs a.i (omega arith) e) (bytes a.s.now bs a.i (omega arith) e hs) c.from_le_bytes.ensures)
    ∙ number_of_8 a.s.now bs a.i hs (from a.s.now bs a.i (omega arith) e)
