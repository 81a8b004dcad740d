-- The definitions on the way down to the numbers, for statements that are computed: `unfolding opened` opens them all.
-- Assumes nothing.
use mathlib.Core.List.{flat_map, zip, zip_with}
use lib.Count.{ones, ones_in}
use Rattle.runs.specs.Division.{coefficients, divided, taken_down}
use Rattle.runs.specs.Refusals.{or_else}
use Rattle.runs.specs.Runs.{tab, joined, octets_of, read_on, over}
use Rattle.formats.specs.Formats as F
use Rattle.numbers.specs.Numbers as N
use Rattle.guards.specs.Guards.{v_of, nine_of, protected_bits, ten_guard, guard_of}
use Rattle.cells.specs.Cells as C
use Rattle.cells.specs.Placement.{slot_of, slot_of_entry, entry_of_slot, carried}
use Rattle.sender.specs.Sender as S
use Rattle.receiver.specs.Receiver as R
use Rattle.reading.specs.Totals.{total_of, those, Each}
use Rattle.line.specs.Line as L
use Rattle.line.specs.Losses.{story_from, past_place, SlipBack, AnyLoss}

runs : Unit {0}
unfolding flat_map zip zip_with ones ones_in coefficients divided taken_down or_else tab joined octets_of read_on over
runs = tt

formats : Unit {0}
unfolding F.length_of F.sample_bits F.ancillary_bits F.overhead_bits F.listed_octets F.is_among F.is_listed F.width_of F.slots_of F.format_of F.settings_refusal
formats = tt

numbers : Unit {0}
unfolding N.table_a1 N.turned N.protection_of N.seven_of N.divided_entry N.word_bit N.gathered N.place_in N.found_of N.difference_of
    v_of nine_of protected_bits ten_guard guard_of
numbers = tt

found : Unit {0}
unfolding N.refusal_of N.value_of N.indication_refused
found = tt

cells : Unit {0}
unfolding C.overhead_of C.subframe_of C.slot_octets C.cell_of C.subframe_at C.sample_in C.ancillary_in C.mark_in C.bit_in C.eight_in C.second_in C.entries_of
cells = tt

placement : Unit {0}
unfolding slot_of slot_of_entry entry_of_slot carried
placement = tt

sender : Unit {0}
unfolding S.numbers_refused S.state_refusal S.all_below S.lengths_refused S.values_refused S.send_refusal S.second_now S.after
sender = tt

sent : Unit {0}
unfolding S.cell_now S.sent_of S.cell_after
sent = tt

receiver : Unit {0}
unfolding R.opened_of R.last_refused R.count_refused R.state_refusal R.lengths_refused R.found_now R.gap_of R.count_after
    R.receive_refusal R.entries_now R.second_now R.after R.received_of R.entries_given
receiver = tt

line : Unit {0}
unfolding L.Row L.wrote L.longest L.places_of L.from_first L.all_lost L.to_last L.left_by L.CountsCells L.Demand3
line = tt

losses : Unit {0}
unfolding total_of those Each story_from past_place SlipBack AnyLoss
losses = tt

unfoldable pub opened : Unit {0}
unfolding runs formats numbers found cells placement sender sent receiver line losses
opened = tt
