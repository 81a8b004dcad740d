-- Document 01's and the requests' cases: what the definitions give is what the sentences say, each pair computed.
-- Assumes nothing.
use mathlib.Core.Path.{◌≡◌, refl}
use lib.Count.{ones, ones_in}
use Rattle.receiver.proofs.Wrong as receiver
use Rattle.reading.specs.Heard.{heard_by, given, hear}
use Rattle.reading.specs.Totals.{total_of}
use Rattle.pieces.proofs.Wrong as pieces
use Rattle.text.specs.Text.{digits_of}
use Rattle.listing.specs.List.{line_of, lines_of, end_lines, list_to}
use Rattle.cable.proofs.Wrong as cable
use Rattle.circuits.proofs.Wrong as circuits
use Rattle.figures.proofs.Wrong as figures
use Rattle.presence.specs.Taking.{reads_on}
use Rattle.presence.proofs.Wrong as presence
use Rattle.saving.proofs.Wrong as saving
use Rattle.status.proofs.Wrong as status
use Rattle.units.proofs.Wrong as units
use Rattle.worked.specs.Cases.{
  status_asked,
  status_said,
  list_asked,
  list_said,
  frames_asked,
  frames_said,
  sheets_asked,
  sheets_said,
  presence_asked,
  presence_said,
  salvage_asked,
  salvage_said,
  circuits_asked,
  circuits_said,
  units_asked,
  units_said,
}

status_cases : status_asked ≡ status_said
unfolding status_asked status_said status.unfolded
status_cases = refl

list_cases : list_asked ≡ list_said
unfolding list_asked list_said receiver.unfolded pieces.unfolded heard_by given hear total_of digits_of line_of lines_of end_lines list_to
list_cases = refl

frames_cases : frames_asked ≡ frames_said
unfolding frames_asked frames_said ones ones_in cable.unfolded
frames_cases = refl

sheets_cases : sheets_asked ≡ sheets_said
unfolding sheets_asked sheets_said figures.unfolded heard_by given hear
sheets_cases = refl

presence_cases : presence_asked ≡ presence_said
unfolding presence_asked presence_said presence.unfolded reads_on heard_by given hear
presence_cases = refl

salvage_cases : salvage_asked ≡ salvage_said
unfolding salvage_asked salvage_said saving.unfolded heard_by given hear
salvage_cases = refl

circuits_cases : circuits_asked ≡ circuits_said
unfolding circuits_asked circuits_said circuits.unfolded
circuits_cases = refl

units_cases : units_asked ≡ units_said
unfolding units_asked units_said units.units_unfolded units.unfolded
units_cases = refl

pub the_papers'_cases : (status_asked ≡ status_said)
    × (list_asked ≡ list_said)
    × (frames_asked ≡ frames_said)
    × (sheets_asked ≡ sheets_said)
    × (presence_asked ≡ presence_said)
    × (salvage_asked ≡ salvage_said)
    × (circuits_asked ≡ circuits_said)
    × (units_asked ≡ units_said)
the_papers'_cases = (
  status_cases,
  list_cases,
  frames_cases,
  sheets_cases,
  presence_cases,
  salvage_cases,
  circuits_cases,
  units_cases,
)
