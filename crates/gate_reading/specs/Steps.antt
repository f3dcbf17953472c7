-- The steps of a gate read: the gates as one number each, and the rules on those that are left.
use Rattle.std.specs.Prelude.{◌≡◌, ℕ, ◌-◌, ◌/◌, ◌%◌, ◌<◌, List, [], ◌∷◌, ◌++◌, length, get_or}
use Rattle.std.proofs.lemmas.List.Edits.{sets}
use Rattle.std.proofs.Math.Seq.{slice}
use Rattle.numbers.specs.Pieces.{times, unpack}
use Rattle.framing.specs.Refusals.{Refusal}
use Rattle.profiles.specs.{Profiles.count_of, Profiles.rules_refusal, Reading.entries_of}
use Rattle.gates.specs.Gates.{gate_profile_with, gate_widths, gate_bits, bits_with, gate_refusal}
use Rattle.gates.specs.Forms.{layout_of, profile_in}
use Rattle.gates.specs.declared.forms.Form.{Form}

-- the first n gates outside: 9 bytes for each
abbrev pub first_gates : ℕ → List ℕ → ℕ → List ℕ
first_gates distance s n = unpack s 16 (times n (gate_widths distance))

-- the bytes of a gate whose bits are one number: the two of its distance, the two of its number, suffix, manning, class, whistling, whistling type
abbrev pub digits : ℕ → List ℕ
digits gate =
    gate / 1048576 / 256 % 256
    ∷ gate / 1048576 % 256
    ∷ gate / 1024 % 1024 / 256
    ∷ gate / 1024 % 1024 % 256
    ∷ gate / 128 % 8
    ∷ gate / 64 % 2
    ∷ gate / 8 % 8
    ∷ gate / 4 % 2
    ∷ gate % 4
    ∷ []

-- the bytes of gates that are one number each
unfoldable pub spread : List ℕ → List ℕ
spread [] = []
spread (gate ∷ more) = digits gate ++ spread more

-- the rules on the gates from gate i on, of n that are one number each and start at bit 16
abbrev pub rules_from : ℕ → List ℕ → ℕ → ℕ → Refusal
rules_from distance kept n i = rules_refusal (gate_profile_with distance) (bits_with distance i) (spread (slice i n kept)) (n - i)

-- gate i is the first that is refused: the rules on it and on those behind it are the rules on all of them
pub record IsFirst (form : Form) (kept : List ℕ) (i : ℕ) : Type 0 where
  pub there : i < length kept
  pub refused : (gate_refusal (layout_of form).distance (digits (get_or kept i 0))).number ≡ 0 → ⊥
  pub first : rules_from (layout_of form).distance kept (length kept) i ≡ rules_refusal (profile_in form) 16 (spread kept) (length kept)

-- an array with the gates that s says put at its front, each as the number that its bits are in the form
abbrev pub kept_gates : Form → List ℕ → List ℕ → List ℕ
kept_gates form s kept = sets kept 0 (unpack s 16 (times (count_of (profile_in form) s) (gate_bits (layout_of form).distance ∷ [])))

-- so their bytes are the gates outside
abbrev pub HoldsGates : Form → List ℕ → List ℕ → Type 0
HoldsGates form s kept = spread (slice 0 (count_of (profile_in form) s) kept) ≡ entries_of (profile_in form) s

-- the rules on the gates that are kept
abbrev pub kept_refusal : Form → List ℕ → List ℕ → Refusal
kept_refusal form s kept = rules_refusal (profile_in form) 16 (spread (slice 0 (count_of (profile_in form) s) kept)) (count_of (profile_in form) s)
