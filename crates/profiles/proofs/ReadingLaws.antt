-- Laws of reading a profile.
use mathlib.Core.Path.{◌≡◌, refl, sym, ap, ap₂, ◌∙◌}
use mathlib.Core.List.{List, [], ◌∷◌, ◌++◌}
use Prim.Native.Nat.{ℕ, suc, ◌+◌, ◌-◌, ◌*◌, ◌/◌, ◌%◌, ◌^◌, ◌≤◌}
use native.Mathlib.Decide.{ℕ_discrete}
use native.Mathlib.Nat.{zero-add, add-suc, mod-one, div-one}
use native.Mathlib.Omega.{arith}
use borrow.Author.Tests.{ltb-false, eqb-true, not-false}
use lib.ListN.{length, set, drop}
use lib.Seq.{sets, sets-eq}
use Rattle.numbers.specs.Fields.{field}
use Rattle.numbers.proofs.FieldLaws.{field-zero}
use Rattle.numbers.proofs.PieceLaws.{length-unpack}
use Rattle.numbers.proofs.WithinLaws.{field_within}
use Rattle.framing.specs.Refusals.{Refusal}
use Rattle.framing.specs.Framing.{length_of}
use Rattle.framing.proofs.RefusalLaws.{same_number, or_else-first, or_else_then, refuse-none, unless-none, unless-some}
use Rattle.framing.proofs.FramingLaws.{Headed, headed}
use Rattle.profiles.specs.Profiles.{Profile, count_of, first_at, bytes_for, padding_for, widths_at, rules_refusal}
use Rattle.profiles.specs.Reading.{entries_of, bits_of, shape_refusal, end_refusal, read_refusal, read_with, refused_for, read_answer, read_into}
use Rattle.profiles.proofs.ProfileLaws.{Regular, length_at}

-- the bits that fill up a byte are its low digits
abbrev pub padding_width : ℕ → ℕ
padding_width bits = (8 - bits % 8) % 8

pub padding_byte : (s : List ℕ) (bits : ℕ) → field s (8 * (bits / 8)) 8 % 2 ^ padding_width bits ≡ field s bits (padding_for bits)
padding_byte s bits = of (ℕ_discrete (bits % 8) 0)
  where
    byte : ℕ
    byte = field s (8 * (bits / 8)) 8

    width : padding_width bits ≡ padding_for bits
    width = omega arith

    of : Dec (bits % 8 ≡ 0) → byte % 2 ^ padding_width bits ≡ field s bits (padding_for bits)
    of (yes z) =
        let none_left : padding_width bits ≡ 0 = omega arith in
        ap (λ (w : ℕ). byte % 2 ^ w) none_left ∙ mod-one byte ∙ sym (field-zero s bits) ∙ ap (field s bits) (sym none_left ∙ width)
    of (no nz) =
        let w : ℕ = padding_width bits in
        let whole : bits % 8 + w + 0 ≡ 8 = omega arith in
        let place : 8 * (bits / 8) + bits % 8 ≡ bits = omega arith in
        ap (λ (x : ℕ). x % 2 ^ w) (sym (div-one byte) ∙ ap (λ (t : ℕ). field s (8 * (bits / 8)) t / 1) (sym whole))
        ∙ sym (field_within s (8 * (bits / 8)) (bits % 8) w 0)
        ∙ (λ i. field s (place i) (width i))

-- where nothing refuses before the entries, the length is theirs
pub shape_right : (kind : ℕ) (s : List ℕ) (bits : ℕ) → (shape_refusal kind s bits).number ≡ 0 → length_of s ≡ bytes_for bits
unfolding shape_refusal
shape_right kind s bits e = eqb-true _ _ (not-false _ (refuse-none _ _ _ (or_else_then _ _ e)))

-- where nothing refuses behind the entries, there is room for them
pub end-room : (s : List ℕ) (bits bytes room : ℕ) → (end_refusal s bits bytes room).number ≡ 0 → bytes ≤ room
unfolding end_refusal
end-room s bits bytes room e = ltb-false _ _ (refuse-none _ _ _ (or_else_then _ _ e))

-- a read that is not refused
pub record Accepted (f : Profile) (s : List ℕ) (room : ℕ) : Type 0 where
  pub head : Headed s f.kind f.kind
  pub length_right : length_of s ≡ bytes_for (bits_of f s)
  pub rules : (rules_refusal f (first_at f) (entries_of f s) (count_of f s)).number ≡ 0
  pub padding : field s (bits_of f s) (padding_for (bits_of f s)) ≡ 0
  pub fits : f.pieces * count_of f s ≤ room

pub accepted : (f : Profile) (s : List ℕ) (room : ℕ) → (read_refusal f s room).number ≡ 0 → Accepted f s room
unfolding read_refusal shape_refusal end_refusal
accepted f s room e =
    let shape = or_else-first _ _ e in
    let body = or_else_then _ _ e in
    let end = or_else_then _ _ body in
    let p : field s (bits_of f s) (padding_for (bits_of f s)) ≤ 0 = ltb-false _ _ (refuse-none _ _ _ (or_else-first _ _ end)) in
    record {
      head = headed s f.kind f.kind (or_else-first _ _ shape);
      length_right = shape_right f.kind s (bits_of f s) shape;
      rules = or_else-first _ _ body;
      padding = omega arith;
      fits = end-room s (bits_of f s) (f.pieces * count_of f s) room end;
    }

pub length_entries : (f : Profile) → Regular f → (s : List ℕ) → length (entries_of f s) ≡ f.pieces * count_of f s
unfolding entries_of
length_entries f reg s = length-unpack s (first_at f) (widths_at f s (first_at f) (count_of f s)) ∙ length_at f reg s (first_at f) (count_of f s)

-- the ways that a read ends
module _ (f : Profile) (s o : List ℕ) where
  module _ (a : Refusal) (e : a ≡ read_refusal f s (length o)) where
    pub read-refused : (a.number ≡ 0 → ⊥) → (refused_for a ≡ read_answer f s o) × (o ≡ read_into f s o)
    unfolding read_answer read_into
    read-refused ne =
        let h : (read_refusal f s (length o)).number ≡ 0 → ⊥ = λ z. ne (same_number e ∙ z) in
        (ap refused_for e ∙ sym (unless-some _ _ _ h), sym (unless-some _ _ _ h))

    -- nothing refuses, and the entries were stored
    pub read_stored : Regular f → a.number ≡ 0 → (n bytes : ℕ) (after : List ℕ) → n ≡ count_of f s → bytes ≡ length_of s → after ≡ sets o 0 (entries_of f s)
        → (read_with n bytes ≡ read_answer f s o) × (after ≡ read_into f s o)
    unfolding read_answer read_into
    read_stored reg z n bytes after en eb eo =
        let h : (read_refusal f s (length o)).number ≡ 0 = sym (same_number e) ∙ z in
        let all : List ℕ = entries_of f s in
        let long : length all ≡ f.pieces * count_of f s = length_entries f reg s in
        let out : after ≡ all ++ drop (f.pieces * count_of f s) o =
        eo ∙ sets-eq all o 0 (omega (arith, (accepted f s (length o) h).fits)) ∙ ap (λ (m : ℕ). all ++ drop m o) (zero-add (length all) ∙ long) in
        (ap₂ read_with en eb ∙ sym (unless-none _ _ _ h), out ∙ sym (unless-none _ _ _ h))

-- ---- the bytes of an entry, stored

-- stores one after the other, each at its distance j from k: a run of stores
unfoldable pub each : List ℕ → ℕ → ℕ → List ℕ → List ℕ
each o k j [] = o
each o k j (v ∷ vs) = each (set o (k + j) v) k (suc j) vs

pub each_run : (o : List ℕ) (k j : ℕ) (vs : List ℕ) → each o k j vs ≡ sets o (k + j) vs
unfolding each
each_run o k j [] = refl
each_run o k j (v ∷ vs) = each_run (set o (k + j) v) k (suc j) vs ∙ ap (λ (n : ℕ). sets (set o (k + j) v) n vs) (add-suc k j)
