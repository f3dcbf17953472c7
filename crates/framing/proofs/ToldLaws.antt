-- What a judgement's answer tells of a chain of grounds: each ground of the code is a refusal, so an `Err` ends the chain, and an `Ok` hands on.
use mathlib.Core.Path.{◌≡◌, sym, ap, ◌∙◌}
use Rattle.std.specs.Prelude.{Result, Ok, Err, IsErrAnd}
use native.Mathlib.Omega.{arith}
use Rattle.framing.specs.Refusals.{Refusal, none, or_else, unless_refused}
use Rattle.framing.specs.Told.{ground_of, told}
use Rattle.framing.specs.declared.refusals.Refusal.{Refusal as Ground}
use Rattle.framing.specs.declared.refusals.Refusal.TheVariants.{TooShort, WrongType, LengthTooSmall, CutOff, LengthNotForCount, NoRoom, TooManyToMove, NotWholeEntries, TooManyEntries, TooWide, NotAllowed, PaddingSet, DistanceStuck}
use Rattle.framing.proofs.RefusalLaws.{same_number, or_else_go, or_else-stop, unless-some}

-- no ground of the code has number 0
pub ground-some : (g : Ground) → (ground_of g).number ≡ 0 → ⊥
ground-some TooShort e = omega arith
ground-some WrongType e = omega arith
ground-some LengthTooSmall e = omega arith
ground-some CutOff e = omega arith
ground-some LengthNotForCount e = omega arith
ground-some NoRoom e = omega arith
ground-some TooManyToMove e = omega arith
ground-some NotWholeEntries e = omega arith
ground-some TooManyEntries e = omega arith
ground-some TooWide e = omega arith
ground-some (NotAllowed p) e = omega arith
ground-some (PaddingSet p) e = omega arith
ground-some (DistanceStuck p) e = omega arith

-- a judgement that refuses ends the chain, and one that does not hands on
pub stops : (g : Ground) (a rest : Refusal) → ground_of g ≡ a → ground_of g ≡ or_else a rest
stops g a rest e = e ∙ or_else-stop a rest (λ z. ground-some g (same_number e ∙ z))

pub goes_on : (a rest : Refusal) {x : Refusal} → none ≡ a → x ≡ rest → x ≡ or_else a rest
goes_on a rest e f = f ∙ sym (or_else_go a rest (sym (same_number e)))

-- what `?` hands out is what it was given
pub passed : {T : Type 0} (r : Result T Ground) (g : Ground) → IsErrAnd r (λ y. y ≡ g) → told r ≡ ground_of g
passed (Err y) g e = ap ground_of e
passed (Ok x) g e = absurd e

-- so a `?` that is refused ends the chain too
pub handed_out : {T : Type 0} (r : Result T Ground) (g : Ground) (a rest : Refusal) → IsErrAnd r (λ y. y ≡ g) → ground_of g ≡ a → told r ≡ or_else a rest
handed_out r g a rest p e = passed r g p ∙ stops g a rest e

-- and leaves what an answer leaves where there is one
pub handed-some : {T A : Type 0} (r : Result T Ground) (g : Ground) (a b : A) → IsErrAnd r (λ y. y ≡ g) → unless_refused (told r).number a b ≡ b
handed-some r g a b p = unless-some _ a b (λ z. ground-some g (sym (same_number (passed r g p)) ∙ z))
