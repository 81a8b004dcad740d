-- The definitions down to those of the log and the receiver, for readings that are computed.
-- Assumes nothing.
use Rattle.reading.specs.Heard.{heard_by, given, hear}
use Rattle.reading.specs.Reading.{reading_of}
use Rattle.reading.specs.Records.{is_whole, front_of, walk_within, walk_in}
use Rattle.reading.specs.Totals.{total_of}

unfoldable pub unfolded : Unit {0}
unfolding is_whole front_of walk_within walk_in heard_by given hear reading_of total_of
unfolded = tt
