-- Laws of a file that is moved: its first sub-packet, and what lies behind it.
use mathlib.Core.Path.{◌≡◌, refl, sym, ap, ◌∙◌}
use mathlib.Core.Bool.{Bool, true, false}
use mathlib.Core.List.{List, [], ◌∷◌, ◌++◌, append_assoc, append-nil}
use Prim.Native.Nat.{ℕ, zero, suc, ◌+◌, ◌≤◌, ◌<◌}
use native.Mathlib.Nat.{add_assoc, add-zero, zero-add}
use native.Mathlib.Decide.{ℕ_discrete}
use native.Mathlib.Omega.{arith}
use lib.ListN.{length, take, drop, length-drop}
use Rattle.numbers.proofs.FieldLaws.{field_lt}
use Rattle.framing.specs.Refusals.{none, unless_refused}
use Rattle.framing.specs.Refusals.{Refusal}
use Rattle.framing.proofs.RefusalLaws.{unless-some}
use Rattle.gates.specs.declared.forms.Form.{Form}
use Rattle.gate_moving.specs.Moving.{move_into}
use Rattle.gate_moving.proofs.MoveLaws.{took}
use Rattle.gate_moving.proofs.BehindLaws.{move_unread}
use Rattle.gate_files.specs.Files.{FileMoved, longest, blank, first_moved, first_made, refusal_of, nothing_moved, moved_before, file_in, file_moved}

-- ---- what was moved before

pub before-nothing : (f : FileMoved) → f ≡ moved_before [] 0 0 f
before-nothing f = λ i. record { written = f.written; packets = sym (zero-add f.packets) i; used = sym (zero-add f.used) i; refusal = f.refusal }

pub nothing-behind : (written : List ℕ) (packets used : ℕ) (r : Refusal)
    → moved_before written packets used (nothing_moved r) ≡ record { written = written; packets = packets; used = used; refusal = r }
nothing-behind written packets used r =
    λ i. record { written = append-nil written i; packets = add-zero packets i; used = add-zero used i; refusal = r }

pub before-before : (a b : List ℕ) (p q u v : ℕ) (f : FileMoved) → moved_before a p u (moved_before b q v f) ≡ moved_before (a ++ b) (p + q) (u + v) f
before-before a b p q u v f = λ i. record {
  written = sym (append_assoc a b f.written) i;
  packets = sym (add_assoc p q f.packets) i;
  used = sym (add_assoc u v f.used) i;
  refusal = f.refusal;
}

module _ (from : Form) where
  -- ---- the first sub-packet of a file

  -- what a file comes to, by what its first sub-packet and the rest come to
  abbrev first_then : List ℕ → FileMoved → FileMoved
  first_then s rest =
      unless_refused (first_moved from s).answer (moved_before (first_made from s) 1 (first_moved from s).used rest) (nothing_moved (refusal_of (first_moved from s)))

  -- where it is moved some bytes are used, so fewer are left; where it is refused, what is left does not count
  same_rest : (s : List ℕ) (f g : FileMoved) → (length (drop (first_moved from s).used s) < length s → f ≡ g) → first_then s f ≡ first_then s g
  same_rest s f g h = of (ℕ_discrete (first_moved from s).answer 0)
    where
      of : Dec ((first_moved from s).answer ≡ 0) → first_then s f ≡ first_then s g
      of (yes z) =
          let t = took from s blank z in
          ap (first_then s) (h (rw length-drop (omega (arith, t.some, t.there))))
      of (no ne) = unless-some _ _ _ ne ∙ sym (unless-some _ _ _ ne)

  -- a bound that is large enough does not count
  enough : (n m : ℕ) (s : List ℕ) → length s ≤ n → length s ≤ m → file_in n from s ≡ file_in m from s
  unfolding file_in
  enough zero zero s h l = refl
  enough zero (suc m) [] h l = refl
  enough zero (suc m) (b ∷ more) h l = absurd (omega arith)
  enough (suc n) zero [] h l = refl
  enough (suc n) zero (b ∷ more) h l = absurd (omega arith)
  enough (suc n) (suc m) [] h l = refl
  enough (suc n) (suc m) (b ∷ more) h l =
      let rest : List ℕ = drop (first_moved from (b ∷ more)).used (b ∷ more) in
      same_rest (b ∷ more) (file_in n from rest) (file_in m from rest) (λ less. enough n m rest (omega arith) (omega arith))

  pub file_none : (s : List ℕ) → length s ≡ 0 → file_moved from s ≡ nothing_moved none
  unfolding file_moved file_in
  file_none [] e = refl
  file_none (b ∷ more) e = absurd (omega arith)

  pub file_next : (s : List ℕ) → (length s ≡ 0 → ⊥) → file_moved from s ≡ first_then s (file_moved from (drop (first_moved from s).used s))
  unfolding file_moved file_in
  file_next [] some = absurd (some refl)
  file_next (b ∷ more) some =
      let rest : List ℕ = drop (first_moved from (b ∷ more)).used (b ∷ more) in
      same_rest (b ∷ more) (file_in (length more) from rest) (file_in (length rest) from rest) (λ less. enough (length more) (length rest) rest (omega arith) (omega arith))

  -- ---- what is held of a file, where `rest` is still to be read

  module _ (held rest : List ℕ) (closed : Bool) (whole : closed ≡ false → longest ≤ length held) (end : closed ≡ true → rest ≡ []) where
    -- the first sub-packet is whole, or nothing more comes
    first-held : (first_moved from (held ++ rest) ≡ first_moved from held) × (move_into from (held ++ rest) blank ≡ move_into from held blank)
    first-held = of closed refl
      where
        of : (b : Bool) → closed ≡ b → (first_moved from (held ++ rest) ≡ first_moved from held) × (move_into from (held ++ rest) blank ≡ move_into from held blank)
        of true e =
            let same : held ++ rest ≡ held = ap (λ (l : List ℕ). held ++ l) (end e) ∙ append-nil held in
            (ap (first_moved from) same, ap (λ (s : List ℕ). move_into from s blank) same)
        of false e = move_unread from held rest blank (omega (arith, whole e)) (omega (arith, whole e, field_lt held 4 7))

    pub answer-held : first_moved from (held ++ rest) ≡ first_moved from held
    answer-held = first-held.0

    pub made_held : first_made from (held ++ rest) ≡ first_made from held
    made_held = λ i. take (first-held.0 i).written (first-held.1 i)
