-- What `linelist` prints of the paper's log: computed.
-- Assumes nothing.
use mathlib.Core.Path.{◌≡◌, refl}
use Rattle.receiver.proofs.Wrong as receiver
use Rattle.reading.specs.Heard.{heard_by, given, hear}
use Rattle.reading.specs.Totals.{total_of}
use Rattle.pieces.proofs.Wrong as pieces
use Rattle.text.specs.Text.{digits_of}
use Rattle.text.specs.Words.{words}
use Rattle.listing.specs.List.{line_of, lines_of, end_lines, list_to, list_of}
use Rattle.worked.specs.Cases.{paper's_log}

pub prints_exactly : list_of paper's_log ≡ words "format 86 2 0\n0 sound 0 number 0\n1 refused 9\nend 1 sound 0 missing 1 refused\n"
unfolding receiver.unfolded pieces.unfolded heard_by given hear total_of digits_of line_of lines_of end_lines list_to
prints_exactly = refl
