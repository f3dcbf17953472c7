-- WHAT FOLLOWS THE FIRST SUB-PACKET CHANGES NOTHING in a move, where it is accepted and where it is refused.
use mathlib.Core.Path.{◌≡◌, sym, ap, ◌∙◌}
use mathlib.Core.List.{List, ◌++◌}
use Prim.Native.Nat.{ℕ, ◌*◌, ◌≤◌}
use native.Mathlib.Decide.{ℕ_discrete}
use native.Mathlib.Omega.{arith}
use lib.Dec.{ltb}
use lib.ListN.{length, take}
use Rattle.framing.specs.Refusals.{too_many_to_move, refuse, or_else, unless_refused}
use Rattle.framing.specs.Framing.{length_of}
use Rattle.framing.specs.Refusals.{Refusal}
use Rattle.framing.proofs.RefusalLaws.{same_number, or_else-first, or_else-stop, unless-some}
use Rattle.framing.proofs.BehindLaws.{length_front, head-front, unread, inside, there}
use Rattle.profiles.specs.Profiles.{Profile, count_of, bytes_for, first_at}
use Rattle.profiles.specs.Reading.{entries_of, read_refusal, room_refusal}
use Rattle.profiles.specs.Writing.{written}
use Rattle.profiles.proofs.ReadingLaws.{accepted}
use Rattle.profiles.proofs.BehindLaws.{count-front, entries_front, refusal-front}
use Rattle.gates.specs.Gates.{gate_type, gate_bytes, bits_with}
use Rattle.gates.specs.Forms.{layout_of, other_form, profile_in}
use Rattle.gates.specs.declared.forms.Form.{Form}
use Rattle.gate_moving.specs.Moving.{distances_refusal, restated, packet_refusal, judged_refusal, move_refusal, moved_with, not_moved, move_answer, move_into}
use Rattle.gate_moving.proofs.MoveLaws.{judged}

-- the first n bytes, among them the whole first sub-packet
module _ (from : Form) (s : List ℕ) (n : ℕ) (two : 2 ≤ n) (whole : length_of s ≤ n) (enough : n ≤ length s) where
  abbrev f : Profile
  f = profile_in from

  abbrev front : List ℕ
  front = take n s

  count : count_of f s ≡ count_of f front
  count = sym (count-front f (omega arith) s n two whole enough)

  packet : packet_refusal from s ≡ packet_refusal from front
  packet = refusal-front f (omega arith) s n two whole enough (gate_bytes * count_of f s) ∙ ap (λ (k : ℕ). read_refusal f front (gate_bytes * k)) count

  entries : (packet_refusal from s).number ≡ 0 → entries_of f s ≡ entries_of f front
  entries e = entries_front f (omega arith) s n two whole enough (accepted f s (gate_bytes * count_of f s) e).length_right

  judged-front : judged_refusal from s ≡ judged_refusal from front
  unfolding judged_refusal
  judged-front = λ i. or_else (sym (head-front s n two whole enough gate_type gate_type) i)
      (or_else (refuse (ltb (layout_of (other_form from)).most (count i)) too_many_to_move) (of (ℕ_discrete (packet_refusal from s).number 0) i))
    where
      distances : List ℕ → Refusal
      distances u = distances_refusal from (first_at f) (entries_of f u) (count_of f u)

      of : Dec ((packet_refusal from s).number ≡ 0) → or_else (packet_refusal from s) (distances s) ≡ or_else (packet_refusal from front) (distances front)
      of (yes z) = λ i. or_else (packet i) (distances_refusal from (first_at f) (entries z i) (count i))
      of (no ne) = sym (or_else-stop _ _ ne) ∙ packet ∙ or_else-stop _ _ (λ z. ne (same_number packet ∙ z))

  module _ (o : List ℕ) where
    refusal_same : move_refusal from s (length o) ≡ move_refusal from front (length o)
    unfolding move_refusal
    refusal_same = λ i. or_else (judged-front i) (room_refusal (bytes_for (bits_with (layout_of (other_form from)).distance (count i))) (length o))

    pub answer-front : move_answer from s o ≡ move_answer from front o
    unfolding move_answer
    answer-front = λ i. unless_refused (refusal_same i).number
        (moved_with (count i) (sym (length_front s n two whole enough) i) (bytes_for (bits_with (layout_of (other_form from)).distance (count i)))) (not_moved (refusal_same i))

    pub into_front : move_into from s o ≡ move_into from front o
    unfolding move_into move_refusal
    into_front = of (ℕ_discrete (move_refusal from s (length o)).number 0)
      where
        of : Dec ((move_refusal from s (length o)).number ≡ 0) → move_into from s o ≡ move_into from front o
        of (yes z) =
            let e = entries (judged from s (or_else-first _ _ z)).valid in
            λ i. unless_refused (refusal_same i).number (written (profile_in (other_form from)) (restated from (e i) (count i)) o) o
        of (no ne) = unless-some _ _ _ ne ∙ sym (unless-some _ _ _ (λ z. ne (same_number refusal_same ∙ z)))

pub move_unread : (from : Form) (s more o : List ℕ) → 2 ≤ length s → length_of s ≤ length s
    → (move_answer from (s ++ more) o ≡ move_answer from s o) × (move_into from (s ++ more) o ≡ move_into from s o)
move_unread from s more o two whole =
    let short : length_of (s ++ more) ≤ length s = inside s more two whole in
    let enough : length s ≤ length (s ++ more) = there s more two whole in (
      unread s more two whole (λ (t : List ℕ). move_answer from t o) (sym (answer-front from (s ++ more) (length s) two short enough o)),
      unread s more two whole (λ (t : List ℕ). move_into from t o) (sym (into_front from (s ++ more) (length s) two short enough o)),
    )
