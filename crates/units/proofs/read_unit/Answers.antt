-- `units::read_unit` meets its contract.
-- Assumes nothing.
use mathlib.Core.Path.{◌≡◌}
use lib.ListN.{length}
use Rattle.units.specs.Units.{read_refusal}
use Rattle.refusals.proofs.Laws.{number_not_0}
use Rattle.refusals.specs.Refusals.{refused_by}
use Rattle.units.proofs.Laws.{reads_settings}
use Rattle.units.proofs.Answers.{reads_refused, read_bounds, can_unpack, reads_taken}
use Rattle.units.proofs.read_unit.Goals as goal
use Rattle.units.proofs.read_unit.Goals.{In_default, Start}

-- the way back from where nothing is refused
abbrev start : In_default → Start
start c = (goal.at.In_default c).Start

none : (c : In_default)
    → 0
    ≡ read_refusal (start c).args.octet (start c).args.channels (length (start c).args.unit.now)
    (length (start c).args.samples.now) (length (start c).args.ancillary.now)
unfolding refused_by
none c = c.in_default.ensures

pub checked_read-requires : goal.checked_read-requires
checked_read-requires c = c.in-Ok.ensures

pub returns-in-Err : goal.returns-in-Err
returns-in-Err c = let a = c.args in
    let some = number_not_0 c.in-Err.refusal in
    rw c.into.ensures
    (reads_refused a.octet a.channels a.unit.now a.samples.now a.ancillary.now some
    (reads_settings a.octet a.channels (length a.unit.now) (length a.samples.now) (length a.ancillary.now) c.in-Err.ensures some))

pub returns-in-Err-checked_read : goal.returns-in-Err-checked_read
unfolding refused_by
returns-in-Err-checked_read c = let a = c.args in
    rw c.into-in-Err-checked_read.ensures
    (reads_refused a.octet a.channels a.unit.now a.samples.now a.ancillary.now
    (number_not_0 c.in-Err-checked_read.refusal) c.in-Err-checked_read.ensures)

pub nonzero_div-entries : goal.nonzero_div-entries
nonzero_div-entries c = let a = (start c).args in
    (read_bounds a.octet a.channels a.unit.now a.samples.now a.ancillary.now
    c.in-Ok.ensures (none c)).sound.width_from

pub unpack-requires : goal.unpack-requires
unpack-requires c = let a = (start (goal.at.unpack-requires c).In_default).args in
    can_unpack a.octet a.channels a.unit.now a.samples.now a.ancillary.now c.in-Ok.ensures (none (goal.at.unpack-requires c).In_default)

pub returns : goal.returns
returns c = let a = (start (goal.at.returns c).In_default).args in
    reads_taken a.octet a.channels a.unit.now a.samples.now a.ancillary.now c.in-Ok.ensures (none (goal.at.returns c).In_default)
    c.unpack.ensures
