-- Laws of a move: what was judged, what the writer is handed, and the ways that a move ends.
use mathlib.Core.Path.{◌≡◌, refl, sym, ap, ap₂, ◌∙◌}
use mathlib.Core.List.{List}
use Prim.Native.Nat.{ℕ, ◌*◌, ◌%◌, ◌≤◌, ◌<◌}
use native.Mathlib.Decide.{ℕ_discrete}
use native.Mathlib.Omega.{arith}
use borrow.Author.Tests.{ltb-false}
use lib.Dec.{ltb}
use lib.ListN.{length}
use Rattle.numbers.proofs.FieldLaws.{Bytes}
use Rattle.framing.specs.Refusals.{too_many_to_move, refuse, or_else}
use Rattle.framing.specs.Framing.{length_of, head_refusal}
use Rattle.framing.specs.Refusals.{Refusal}
use Rattle.framing.proofs.FramingLaws.{headed}
use Rattle.framing.proofs.RefusalLaws.{same_number, or_else-first, or_else_then, or_else_assoc, ends, next, below, not_below, refuse-none, unless-none, unless-some}
use Rattle.profiles.specs.Profiles.{Profile, count_of, bytes_for, first_at}
use Rattle.profiles.specs.Reading.{entries_of, room_refusal}
use Rattle.profiles.specs.Writing.{entries_in, size_for, written, list_refusal, write_refusal}
use Rattle.profiles.proofs.ReadingLaws.{accepted, length_entries}
use Rattle.profiles.proofs.RoundTrip.{entries_listed}
use Rattle.gates.specs.Gates.{gate_type, gate_bytes, gate_widths, header_put}
use Rattle.gates.specs.Forms.{layout_of, other_form, profile_in}
use Rattle.gates.specs.declared.forms.Form.{Form}
use Rattle.gates.proofs.GateLaws.{regular_in, form_wide, bits_for_lem, widths_of_lem}
use Rattle.numbers.specs.Pieces.{times, pack}
use Rattle.profiles.proofs.WritingLaws.{written-steps}
use Rattle.gate_moving.specs.Moving.{distances_refusal, moved_gates, moved_size, packet_refusal, judged_refusal, move_refusal, moved_with, not_moved, move_answer, move_into}
use Rattle.gate_moving.specs.declared.GatesMoved.{GatesMoved}
use Rattle.gate_moving.proofs.ListLaws.{length-restated, list-taken}

module _ (from : Form) where
  module _ (s : List ℕ) where
    abbrev f : Profile
    f = profile_in from

    abbrev t : Profile
    t = profile_in (other_form from)

    abbrev n : ℕ
    n = count_of f s

    abbrev most : ℕ
    most = (layout_of (other_form from)).most

    -- a move that nothing refuses but perhaps the room
    pub record Judged : Type 0 where
      pub few : n ≤ most
      pub valid : (packet_refusal from s).number ≡ 0
      pub distances : (distances_refusal from (first_at f) (entries_of f s) n).number ≡ 0

    pub judged : (judged_refusal from s).number ≡ 0 → Judged
    unfolding judged_refusal
    judged e =
        let e₁ = or_else_then _ _ e in
        let e₂ = or_else_then _ _ e₁ in
        record {
          few = ltb-false _ _ (refuse-none _ _ _ (or_else-first _ _ e₁));
          valid = or_else-first _ _ e₂;
          distances = or_else_then _ _ e₂;
        }

    pub listed : Judged → (list_refusal f (entries_of f s) n).number ≡ 0
    listed g = entries_listed f (regular_in from) s (accepted f s (gate_bytes * n) g.valid).rules

    pub length_gates : length (entries_of f s) ≡ gate_bytes * n
    length_gates = length_entries f (regular_in from) s

    pub length_moved : length (moved_gates from s) ≡ gate_bytes * n
    length_moved = length-restated from (entries_of f s) n (omega (arith, length_gates)) ∙ length_gates

    pub count-moved : entries_in t (moved_gates from s) ≡ n
    count-moved = omega (arith, length_moved)

    pub size-moved : size_for t (moved_gates from s) (entries_in t (moved_gates from s)) ≡ moved_size from s
    size-moved =
        ap (size_for t (moved_gates from s)) count-moved ∙ ap bytes_for (bits_for_lem (layout_of (other_form from)).distance (form_wide (other_form from)) (moved_gates from s) n)

    -- the writer refuses the gates for want of room alone
    write_room : Judged → (room : ℕ) → write_refusal t most (moved_gates from s) room ≡ room_refusal (moved_size from s) room
    unfolding write_refusal
    write_room g room =
        let list : List ℕ = moved_gates from s in
        let right : (list_refusal t list (entries_in t list)).number ≡ 0 =
        same_number (ap (list_refusal t list) count-moved)
        ∙ list-taken from (entries_of f s) (first_at f) n (omega (arith, length_gates)) (listed g) g.distances in
        sym
        (not_below 0 (length list % gate_bytes) _ _ (omega (arith, length_moved))
        (not_below most (entries_in t list) _ _ (omega (arith, count-moved, g.few))
        (next _ _ right (ap (λ (size : ℕ). room_refusal size room) (sym size-moved)))))

    -- put behind the header they are the sub-packet of the other form
    pub moved-written : (o headed after : List ℕ) → Bytes o → headed ≡ header_put (moved_size from s) n o
        → after ≡ pack headed 16 (times n (gate_widths (layout_of (other_form from)).distance)) (moved_gates from s) → after ≡ written t (moved_gates from s) o
    unfolding header_put
    moved-written o headed after ho eh ea =
        let list : List ℕ = moved_gates from s in
        let d : ℕ = (layout_of (other_form from)).distance in
        let size : moved_size from s ≡ size_for t list (entries_in t list) = sym size-moved in
        let m : n ≡ entries_in t list = sym count-moved in
        written-steps t (regular_in (other_form from)) list o _ headed after ho (omega (arith, length_moved, count-moved)) refl
        (eh ∙ (λ i. header_put (size i) (m i) o))
        (ea ∙ (λ i. pack headed 16 (times (m i) (gate_widths d)) list) ∙ ap (λ (ws : List ℕ). pack headed 16 ws list) (sym (widths_of_lem d list (entries_in t list))))

    -- the chain of a move, link by link: each ground that does not hold hands on, and the first that holds is the answer
    module _ (room : ℕ) where
      abbrev many : Refusal
      many = refuse (ltb most n) too_many_to_move

      abbrev distances : Refusal
      distances = distances_refusal from (first_at f) (entries_of f s) n

      flat : or_else (head_refusal s gate_type gate_type) (or_else many (or_else (packet_refusal from s) (or_else distances (room_refusal (moved_size from s) room))))
          ≡ move_refusal from s room
      unfolding move_refusal judged_refusal
      flat =
          ap (λ (r : Refusal). or_else (head_refusal s gate_type gate_type) (or_else many r)) (sym (or_else_assoc (packet_refusal from s) distances _))
          ∙ ap (or_else (head_refusal s gate_type gate_type)) (sym (or_else_assoc many (or_else (packet_refusal from s) distances) _))
          ∙ sym (or_else_assoc (head_refusal s gate_type gate_type) (or_else many (or_else (packet_refusal from s) distances)) _)

      pub at_header : (a : Refusal) → a ≡ head_refusal s gate_type gate_type → (a.number ≡ 0 → ⊥) → a ≡ move_refusal from s room
      at_header a e ne = ends _ _ e ne ∙ flat

      module _ (head : (head_refusal s gate_type gate_type).number ≡ 0) where
        pub at_count : most < n → too_many_to_move ≡ move_refusal from s room
        at_count over = next _ _ head (below most n _ over) ∙ flat

        module _ (few : n ≤ most) where
          pub at_packet : (a : Refusal) → a ≡ packet_refusal from s → (a.number ≡ 0 → ⊥) → a ≡ move_refusal from s room
          at_packet a e ne = next _ _ head (not_below most n _ _ few (ends _ _ e ne)) ∙ flat

          pub at_end : (a : Refusal) → (packet_refusal from s).number ≡ 0 → a ≡ or_else distances (room_refusal (moved_size from s) room) → a ≡ move_refusal from s room
          at_end a z e = next _ _ head (not_below most n _ _ few (next _ _ z e)) ∙ flat

    -- the ways that a move ends
    module _ (o : List ℕ) (a : Refusal) (e : a ≡ move_refusal from s (length o)) where
      pub move_refused : (a.number ≡ 0 → ⊥) → (not_moved a ≡ move_answer from s o) × (o ≡ move_into from s o)
      unfolding move_answer move_into
      move_refused ne =
          let h : (move_refusal from s (length o)).number ≡ 0 → ⊥ = λ z. ne (same_number e ∙ z) in
          (ap not_moved e ∙ sym (unless-some _ _ _ h), sym (unless-some _ _ _ h))

      -- nothing refuses, and so does the writer
      module _ (z : a.number ≡ 0) where
        pub clear : (move_refusal from s (length o)).number ≡ 0
        clear = sym (same_number e) ∙ z

        pub writer_takes : (write_refusal t most (moved_gates from s) (length o)).number ≡ 0
        unfolding move_refusal
        writer_takes = same_number (write_room (judged (or_else-first _ _ clear)) (length o)) ∙ or_else_then _ _ clear

        pub move_accepted : (used bytes : ℕ) (after : List ℕ) → used ≡ length_of s → bytes ≡ moved_size from s → after ≡ written t (moved_gates from s) o
            → (moved_with n used bytes ≡ move_answer from s o) × (after ≡ move_into from s o)
        unfolding move_answer move_into
        move_accepted used bytes after eu eb ea = (ap₂ (moved_with n) eu eb ∙ sym (unless-none _ _ _ clear), ea ∙ sym (unless-none _ _ _ clear))

-- what an accepted move took of the bytes that were lent: the sub-packet, which is some of them
pub record Took (from : Form) (s o : List ℕ) : Type 0 where
  pub used : (move_answer from s o).used ≡ length_of s
  pub some : 2 ≤ (move_answer from s o).used
  pub there : (move_answer from s o).used ≤ length s

pub took : (from : Form) (s o : List ℕ) → (move_answer from s o).answer ≡ 0 → Took from s o
unfolding move_answer move_refusal judged_refusal
took from s o e = of (ℕ_discrete (move_refusal from s (length o)).number 0)
  where
    of : Dec ((move_refusal from s (length o)).number ≡ 0) → Took from s o
    of (yes z) =
        let h = headed s gate_type gate_type (or_else-first _ _ (or_else-first _ _ z)) in
        let same : (move_answer from s o).used ≡ length_of s = ap (λ (a : GatesMoved). a.used) (unless-none _ _ _ z) in
        record { used = same; some = omega (arith, same, h.long); there = omega (arith, same, h.whole) }
    of (no ne) = absurd (ne (sym (ap (λ (a : GatesMoved). a.answer) (unless-some _ _ _ ne)) ∙ e))
