-- `framing::frame` meets its contract: an accepted header says that the length is there.
use Prim.Native.Nat.{ℕ}
use mathlib.Core.Path.{◌≡◌, refl, sym, ap, ◌∙◌}
use native.Mathlib.Omega.{arith}
use lib.ListN.{take}
use lib.Seq.{length-take-le}
use Rattle.framing.specs.Framing.{last_type, length_of, frame_refusal}
use Rattle.framing.proofs.RefusalLaws.{same_number, unless-none, unless-some}
use Rattle.framing.proofs.ToldLaws.{ground-some}
use Rattle.framing.proofs.FramingLaws.{headed}
use Rattle.framing.proofs.frame.Goals as goal

pub slice_bounds-result-end : goal.slice_bounds-result-end
slice_bounds-result-end c = let s = c.args.s.now in
    let h = headed s 0 last_type (sym (same_number c.in-Ok.ensures)) in
    sym (length-take-le c.length_of.result s (omega arith))

pub returns-in-Ok : goal.returns-in-Ok
returns-in-Ok c = let s = c.args.s.now in
    let e : (frame_refusal s).number ≡ 0 = sym (same_number c.in-Ok.ensures) in
    (ap (λ (n : ℕ). take n s) (c.length_of.ensures.0 ∙ sym (unless-none (frame_refusal s).number (length_of s) 0 e)), refl)

pub returns-in-Err : goal.returns-in-Err
returns-in-Err c = let s = c.args.s.now in
    let h : (frame_refusal s).number ≡ 0 → ⊥ = λ e. ground-some _ (same_number c.in-Err.ensures ∙ e) in
    (ap (λ (n : ℕ). take n s) (sym (unless-some (frame_refusal s).number (length_of s) 0 h)), refl)
