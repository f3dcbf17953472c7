-- `gate_moving::move_gates` meets its contract: everything is judged first, and written afterwards.
use Prim.Native.Nat.{ℕ}
use mathlib.Core.Path.{◌≡◌, refl, sym, ap, ap₂, ◌∙◌}
use mathlib.Core.List.{List}
use native.Mathlib.Omega.{arith}
use lib.ListN.{length, take}
use lib.Seq.{length-take-le}
use Rattle.numbers.specs.Pieces.{times, pack}
use Rattle.framing.specs.Refusals.{none}
use Rattle.framing.specs.Told.{ground_of}
use Rattle.framing.proofs.ToldLaws.{ground-some}
use Rattle.profiles.specs.Profiles.{count_of, bytes_for}
use Rattle.gates.specs.Gates.{gate_widths, bits_with, header_put}
use Rattle.gates.specs.Forms.{layout_of, other_form, profile_in}
use Rattle.gates.specs.declared.forms.Form.{Form}
use Rattle.gates.specs.declared.forms.Layout.{Layout}
use Rattle.gate_reading.specs.Steps.{spread}
use Rattle.gate_moving.specs.Moving.{restated, moved_gates, moved_size, moved_with}
use Rattle.gate_moving.proofs.MoveLaws.{moved-written, move_refused, move_accepted}
use Rattle.gate_moving.proofs.move_gates.Goals.{After-put_gates}
use Rattle.gate_moving.proofs.move_gates.Goals as goal

pub returns-in-Err : goal.returns-in-Err
returns-in-Err c = let a = c.args in
    let r = move_refused a.from a.s.now a.out.now (ground_of c.in-Err.refusal) c.in-Err.ensures.value (ground-some c.in-Err.refusal) in
    record {
      value = c.from.ensures ∙ r.0;
      out_after = r.1;
    }

pub overflow_cast-count : goal.overflow_cast-count
overflow_cast-count c = omega (arith, c.in-Ok.ensures.count.1)

pub slice_bounds-put_gates-end : goal.slice_bounds-put_gates-end
slice_bounds-put_gates-end c = sym (length-take-le c.in-Ok.count c.take_gates.new.kept (omega (arith, c.take_gates.array_long, c.in-Ok.ensures.count.1)))

-- what was written
module _ (c : After-put_gates) where
  abbrev from : Form
  from = c.args.from

  abbrev s : List ℕ
  s = c.args.s.now

  abbrev o : List ℕ
  o = c.args.out.now

  abbrev kept : List ℕ
  kept = c.take_gates.new.kept

  abbrev headed : List ℕ
  headed = c.put_header-written.new.out

  abbrev all : ℕ
  all = count_of (profile_in from) s

  abbrev ws : List ℕ
  ws = gate_widths (layout_of (other_form from)).distance

  count : c.in-Ok.count ≡ all
  count = c.in-Ok.ensures.count.0

  width : c.layout.result ≡ layout_of (other_form from)
  width = c.layout.ensures ∙ ap layout_of c.other.ensures

  size : c.put_header-written.result ≡ moved_size from s
  size = c.put_header-written.ensures.value ∙ ap₂ (λ (l : Layout) (k : ℕ). bytes_for (bits_with l.distance k)) width count

  head_eq : headed ≡ header_put (moved_size from s) all o
  head_eq = c.put_header-written.ensures.out_after ∙ ap₂ (λ (l : Layout) (k : ℕ). header_put (bytes_for (bits_with l.distance k)) k o) width count

  part : length (take c.in-Ok.count kept) ≡ c.in-Ok.count
  part = length-take-le c.in-Ok.count kept (omega (arith, c.take_gates.array_long, c.in-Ok.ensures.count.1))

  put : c.put_gates.new.out ≡ pack headed 16 (times all ws) (moved_gates from s)
  put =
      c.put_gates.ensures
      ∙ ap (λ (m : ℕ). pack headed 16 (times m ws) (restated from (spread (take c.in-Ok.count kept)) m)) part
      ∙ ap (λ (m : ℕ). pack headed 16 (times m ws) (restated from (spread (take m kept)) m)) count
      ∙ ap (λ (list : List ℕ). pack headed 16 (times all ws) (restated from list all)) c.in-Ok.ensures.holds_gates

pub returns : goal.returns
returns c = let e = (goal.at.returns c).After-put_gates in
    let r = move_accepted (from e) (s e) (o e) none c.in-Ok.ensures.value refl c.length_of.result c.put_header-written.result _ c.length_of.ensures.0 (size e)
    (moved-written (from e) (s e) (o e) _ _ (λ k. omega (arith, c.slice_known-1.given k)) (head_eq e) (put e)) in
    record {
      value = ap (λ (k : ℕ). moved_with k c.length_of.result c.put_header-written.result) (count e) ∙ r.0;
      out_after = r.1;
    }
