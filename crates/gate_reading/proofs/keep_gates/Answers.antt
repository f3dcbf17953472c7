-- `gate_reading::keep_gates` meets its contract.
use Prim.Native.Nat.{ℕ, ◌≤◌}
use mathlib.Core.Path.{◌≡◌, refl, sym, ap, ◌∙◌}
use mathlib.Core.List.{List, [], ◌∷◌, ◌++◌}
use native.Mathlib.Nat.{one-mul}
use native.Mathlib.Omega.{arith}
use lib.ListN.{length, take, drop}
use lib.Seq.{sets, slice, length-take-le}
use Rattle.numbers.specs.Pieces.{times, unpack}
use Rattle.numbers.proofs.PieceLaws.{length-unpack, length-times}
use Rattle.gates.specs.Gates.{gate_bits}
use Rattle.gates.specs.Forms.{layout_of}
use Rattle.gates.specs.declared.forms.Form.{Form}
use Rattle.gates.proofs.GateLaws.{form_wide, form_narrow}
use Rattle.gate_reading.specs.Steps.{spread}
use Rattle.gate_reading.proofs.ReadingLaws.{front_kept, kept_gates_lem, gates_entries}
use Rattle.gate_reading.proofs.keep_gates.Goals as goal

pub returns : goal.returns
returns c =
    let a = c.args in
    let kept : List ℕ = a.kept.now in
    let d : ℕ = (layout_of a.form).distance in
    let n : ℕ = c.count_of.result in
    let ws : List ℕ = gate_bits d ∷ [] in
    let count = c.count_of.ensures.0 in
    let room : n ≤ length kept = omega (arith, c.count_of.ensures.1) in
    let long : length (unpack a.s.now 16 (times n ws)) ≡ n = length-unpack a.s.now 16 (times n ws) ∙ length-times n ws 1 refl ∙ one-mul n in
    let part : length (take n kept) ≡ n = length-take-le n kept room in
    let loaded : c.load_gates.new.kept ++ drop n kept ≡ sets kept 0 (unpack a.s.now 16 (times n ws)) =
    ap (λ (l : List ℕ). l ++ drop n kept) (c.load_gates.ensures ∙ ap (λ (k : ℕ). sets (take n kept) 0 (unpack a.s.now 16 (times k ws))) part)
    ∙ front_kept kept (unpack a.s.now 16 (times n ws)) n long room in (
      loaded ∙ ap (λ (k : ℕ). sets kept 0 (unpack a.s.now 16 (times k ws))) count,
      (λ i. spread (slice 0 (sym count i) (loaded i)))
          ∙ kept_gates_lem d a.s.now n kept (form_wide a.form) (form_narrow a.form) room
          ∙ gates_entries d a.s.now (form_wide a.form) n count,
    )
