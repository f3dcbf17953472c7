-- THE WORKED EXAMPLES of the paper that are proved, under one statement.
use mathlib.Core.Path.{◌≡◌, refl, ◌∙◌}
use mathlib.Core.List.{List, map, map_congr_left}
use Prim.Native.Nat.{ℕ}
use lib.ListN.{length}
use Rattle.numbers.specs.Fields.{bit_at, field}
use Rattle.numbers.specs.Pieces.{total, unpack}
use Rattle.fields.specs.FirstSet.{first_set}
use Rattle.framing.specs.Refusals.{refuse, or_else, unless_refused}
use Rattle.framing.specs.Framing.{head_refusal}
use Rattle.profiles.specs.Profiles.{widths_at, rules_refusal}
use Rattle.profiles.specs.Reading.{entries_of, bits_of, shape_refusal, end_refusal, read_refusal, read_answer, read_into}
use Rattle.gates.specs.Gates.{gate_rules, gate_refusal}
use Rattle.transitions.specs.Names.{is_mode}
use Rattle.transitions.specs.Table.{table as transitions}
use Rattle.modes.specs.Next.{choose, refuses, next_step}
use Rattle.kinds.specs.Found.{first}
use Rattle.kinds.specs.Ranges.{one_to, is_position, is_none_or_location, location_from}
use Rattle.trains.specs.Orders.{stands_under, place_under, room, set_at}
use Rattle.trains.specs.Changes.{left_for}
use Rattle.trains.specs.Authority.{nearer, nearest, order_stop, danger_stop, order_stops, end_with}
use Rattle.trains.specs.Sought.{holds_loco, is_sought}
use Rattle.grids.specs.Classes.{among, class_of}
use Rattle.grids.specs.Cells.{cell_of}
use Rattle.sos.specs.Shares.{behind, share_of_l1, share_behind}
use Rattle.rules.specs.Deeds.{end_answer, changed_if, step_taken, mode_stepped, done, end_asked}
use Rattle.rules.specs.Effect.{mark_for, slot_marked, marked, applied}
use Rattle.rules.specs.Named.{in_row, named_in, name_ground}
use Rattle.rules.specs.Raising.{share_ground, share_taken, sos_ground, raised}
use Rattle.rules.specs.Registering.{ticket_for, request_ground, row_of_found, granted}
use Rattle.rules.specs.Rules.{ground_of, done_by, rule}
use Rattle.rules.specs.Ruling.{when, unless, ruled as ruled_by}
use Rattle.rules.specs.Slots.{is_request, slots_for, is_free, is_run, run_from, lowest_run, start_of}
use Rattle.rules.specs.View.{is_taken, sought_in, find_in}
use Rattle.order.specs.InOrder.{start_view}
use Rattle.store.specs.Layout.{session_bytes}
use Rattle.papers.specs.Cases.{flags_of, computed}
use Rattle.papers.specs.Table.{Line, table}
use Rattle.papers.proofs.Viewed.{ruled, after, end_in, viewed, by_states}

-- by states, what the table comes to is computed
viewed_as_printed : map (λ (l : Line). viewed l.case) table ≡ map (λ (l : Line). l.printed) table
unfolding
    viewed ruled after end_in flags_of bit_at field total unpack first_set refuse or_else unless_refused head_refusal gate_rules gate_refusal widths_at rules_refusal entries_of bits_of
    shape_refusal end_refusal read_refusal read_answer read_into transitions is_mode choose refuses next_step first one_to is_position is_none_or_location location_from stands_under place_under room set_at
    left_for nearer nearest order_stop danger_stop order_stops end_with holds_loco is_sought sought_in find_in is_taken mark_for slot_marked marked applied
    among class_of cell_of behind share_of_l1 share_behind when unless ruled_by granted ticket_for request_ground row_of_found end_answer changed_if step_taken mode_stepped done
    end_asked share_ground share_taken sos_ground raised is_request slots_for is_free is_run run_from lowest_run start_of in_row named_in name_ground
    ground_of done_by rule start_view
viewed_as_printed = refl

-- THE STATEMENT: whatever bytes of a session's length are lent, each example of the table comes to what the paper prints
pub all_as_printed : (lent : List ℕ) → length lent ≡ session_bytes
    → map (λ (l : Line). computed lent l.case) table ≡ map (λ (l : Line). l.printed) table
all_as_printed lent size = map_congr_left {l = table} (λ (l : Line) m. by_states lent size l.case) ∙ viewed_as_printed
