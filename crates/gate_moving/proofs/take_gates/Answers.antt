-- `gate_moving::take_gates` meets its contract: the chain of a move, link by link.
use Prim.Native.Nat.{ℕ, ◌≤◌}
use mathlib.Core.Path.{◌≡◌, sym, ap, ap₂, ◌∙◌}
use mathlib.Core.List.{List}
use native.Mathlib.Omega.{arith}
use lib.ListN.{length, take}
use lib.Seq.{length-take-le}
use borrow.Author.Rules.{rules}
use Rattle.framing.specs.Refusals.{none}
use Rattle.framing.specs.Framing.{head_refusal}
use Rattle.framing.specs.Told.{ground_of, told}
use Rattle.framing.proofs.RefusalLaws.{same_number}
use Rattle.framing.proofs.ToldLaws.{ground-some, stops, goes_on, passed}
use Rattle.profiles.specs.Profiles.{Profile, count_of, bytes_for, first_at}
use Rattle.profiles.specs.Reading.{entries_of, room_refusal}
use Rattle.gates.specs.Gates.{gate_type, bits_with}
use Rattle.gates.specs.Forms.{layout_of, other_form, profile_in}
use Rattle.gates.specs.declared.forms.Layout.{Layout}
use Rattle.gate_reading.specs.Steps.{spread}
use Rattle.gate_moving.specs.Moving.{moved_size, packet_refusal, distances_refusal}
use Rattle.gate_moving.proofs.MoveLaws.{at_header, at_count, at_packet, at_end}
use Rattle.gate_moving.proofs.take_gates.Goals.{After-layout-to, After-judge_packet, After-judge, After-judge_room}
use Rattle.gate_moving.proofs.take_gates.Goals as goal

pub returns-in_err-judge_head-clause-value : goal.returns-in_err-judge_head-clause-value
returns-in_err-judge_head-clause-value c =
    passed _ _ c.from_residual.ensures.1 ∙ at_header c.args.from c.args.s.now c.args.room (ground_of c.in_err-judge_head.field-0.0) (ap told (sym c.in_err-judge_head.was) ∙ c.judge_head.ensures) (ground-some c.in_err-judge_head.field-0.0)

-- what the form is like to which gates are moved
module _ (c : After-layout-to) where
  abbrev s : List ℕ
  s = c.args.s.now

  abbrev f : Profile
  f = profile_in c.args.from

  abbrev to : Layout
  to = layout_of (other_form c.args.from)

  other-layout : c.layout-to.result ≡ to
  other-layout = c.layout-to.ensures ∙ ap layout_of c.other.ensures

  most_eq : c.layout-to.result.most ≡ to.most
  most_eq = ap (λ (l : Layout). l.most) other-layout

  counted : c.count_of-count.result ≡ count_of f s
  counted = c.count_of-count.ensures.0

  head_clear : (head_refusal s gate_type gate_type).number ≡ 0
  head_clear = sym (same_number (ap told (sym c.in_ok-judge_head.was) ∙ c.judge_head.ensures))

pub returns-then-to-count-clause-value : goal.returns-then-to-count-clause-value
returns-then-to-count-clause-value c = let e = (goal.at.returns-then-to-count-clause-value c).After-layout-to in
    at_count c.args.from (s e) c.args.room (head_clear e) (omega (arith, most_eq e, counted e))

-- the sub-packet judged by itself
module _ (c : After-judge_packet) where
  abbrev laid : After-layout-to
  laid = (goal.at.After-judge_packet c).After-layout-to

  few : count_of (f laid) (s laid) ≤ (to laid).most
  few = omega (arith, most_eq laid, c.if-to-count.false, counted laid)

pub returns-in_err-judge_packet-clause-value : goal.returns-in_err-judge_packet-clause-value
returns-in_err-judge_packet-clause-value c = let e = (goal.at.returns-in_err-judge_packet-clause-value c).After-judge_packet in
    passed _ _ c.from_residual-in_err-judge_packet.ensures.1
    ∙ at_packet c.args.from (s (laid e)) c.args.room (head_clear (laid e)) (few e) (ground_of c.in_err-judge_packet.field-0.0) (ap told (sym c.in_err-judge_packet.was) ∙ c.judge_packet.ensures.value) (ground-some c.in_err-judge_packet.field-0.0)

-- and its distances
module _ (c : After-judge) where
  abbrev packet : After-judge_packet
  packet = (goal.at.After-judge c).After-judge_packet

  abbrev before : After-layout-to
  before = laid packet

  abbrev kept : List ℕ
  kept = c.judge_packet.new.kept

  packet_clear : (packet_refusal c.args.from (s before)).number ≡ 0
  packet_clear = sym (same_number (ap told (sym c.in_ok-judge_packet.was) ∙ c.judge_packet.ensures.value))

  long : length kept ≡ 31
  long = search rules

  distances_eq : told c.judge.result ≡ distances_refusal c.args.from (first_at (f before)) (entries_of (f before) (s before)) (count_of (f before) (s before))
  distances_eq =
      c.judge.ensures
      ∙ ap (distances_refusal c.args.from 16 (spread (take c.count_of-count.result kept))) (length-take-le c.count_of-count.result kept (omega (arith, long, c.count_of-count.ensures.1)))
      ∙ ap (λ (m : ℕ). distances_refusal c.args.from 16 (spread (take m kept)) m) (counted before)
      ∙ ap (λ (list : List ℕ). distances_refusal c.args.from 16 list (count_of (f before) (s before))) c.in_ok-judge_packet.ensures.holds_gates

pub returns-in_err-judge-clause-value : goal.returns-in_err-judge-clause-value
returns-in_err-judge-clause-value c = let e = (goal.at.returns-in_err-judge-clause-value c).After-judge in
    passed _ _ c.from_residual-in_err-judge.ensures.1
    ∙ at_end c.args.from (s (before e)) c.args.room (head_clear (before e)) (few (packet e)) (ground_of c.in_err-judge.field-0.0) (packet_clear e)
    (stops c.in_err-judge.field-0.0 _ _ (ap told (sym c.in_err-judge.was) ∙ distances_eq e))

-- and the room
module _ (c : After-judge_room) where
  abbrev far : After-judge
  far = (goal.at.After-judge_room c).After-judge

  distances_clear : none ≡ distances_refusal c.args.from (first_at (f (before far))) (entries_of (f (before far)) (s (before far))) (count_of (f (before far)) (s (before far)))
  distances_clear = ap told (sym c.in_ok-judge.was) ∙ distances_eq far

  room_eq : told c.judge_room.result ≡ room_refusal (moved_size c.args.from (s (before far))) c.args.room
  room_eq =
      c.judge_room.ensures
      ∙ ap (λ (k : ℕ). room_refusal k c.args.room)
      (c.bytes_for.ensures
      ∙ ap bytes_for c.bits_of-bits.ensures.0
      ∙ ap₂ (λ (o : Layout) (k : ℕ). bytes_for (bits_with o.distance k)) (other-layout (before far)) (counted (before far)))

pub returns-in_err-judge_room-clause-value : goal.returns-in_err-judge_room-clause-value
returns-in_err-judge_room-clause-value c = let e = (goal.at.returns-in_err-judge_room-clause-value c).After-judge_room in
    passed _ _ c.from_residual-in_err-judge_room.ensures.1
    ∙ at_end c.args.from (s (before (far e))) c.args.room (head_clear (before (far e))) (few (packet (far e))) (ground_of c.in_err-judge_room.field-0.0) (packet_clear (far e))
    (goes_on _ _ (distances_clear e) (ap told (sym c.in_err-judge_room.was) ∙ room_eq e))

pub returns-clause-value : goal.returns-clause-value
returns-clause-value c = let e = (goal.at.returns-clause-value c).After-judge_room in
    at_end c.args.from (s (before (far e))) c.args.room (head_clear (before (far e))) (few (packet (far e))) none (packet_clear (far e))
    (goes_on _ _ (distances_clear e) (ap told (sym c.in_ok-judge_room.was) ∙ room_eq e))
