-- `receiver::entries::parts` meets its contract: each kind of format by its split.
-- Assumes nothing.
use native.Mathlib.Omega.{arith}
use Rattle.cells.proofs.Subframes.{four_ancillary}
use Rattle.receiver.proofs.Unpacking.{part_filled, splits_alone, splits_plain, splits_bare}
use Rattle.receiver.proofs.entries.parts.Goals as goal

pub returns-then-format-ne0 : goal.returns-then-format-ne0
returns-then-format-ne0 c = splits_alone c.args.format c.if-format-eq0.true c.args.at c.args.used
    c.args.samples.now c.args.ancillary.now c.requires.1.ancillary_room c.requires.2 c.split_without_v.ensures.0
    c.split_without_v.ensures.1

pub returns-then-format-eq0 : goal.returns-then-format-eq0
returns-then-format-eq0 c = splits_plain c.args.format c.if-format-ne0.false c.args.at c.args.used c.args.samples.now c.args.ancillary.now
    c.args.marks.now c.requires.1
    (part_filled c.args.marks.now c.args.at c.args.used 0 c.requires.1.marks_room (omega arith) c.fill.ensures)
    c.if-format-eq0.true c.requires.2

pub returns : goal.returns
returns c = splits_bare c.args.format c.if-format-ne0-2.false c.args.at c.args.used c.args.samples.now c.args.ancillary.now
    c.args.marks.now c.requires.1
    (part_filled c.args.marks.now c.args.at c.args.used 0 c.requires.1.marks_room (omega arith) c.fill-2.ensures)
    (four_ancillary c.requires.0 c.if-format-eq0.false)
    c.split_bare.ensures.0 c.split_bare.ensures.1
