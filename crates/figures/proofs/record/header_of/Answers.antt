-- `figures::record::header_of` meets its contract.
-- Assumes nothing.
use mathlib.Core.Path.{◌≡◌, sym}
use native.Mathlib.Omega.{arith}
use lib.ListN.{length}
use lib.Seq.{length-take-le}
use Rattle.figures.proofs.record.header_of.Goals as goal
use Rattle.figures.proofs.record.header_of.Goals.{Start}

size : (c : Start) → length c.args.held ≡ 49
size c = c.well_formed.0.1.0.1

pub slice_bounds-header_numbers-end : goal.slice_bounds-header_numbers-end
slice_bounds-header_numbers-end c = sym (length-take-le 3 c.args.held (omega (arith, size (goal.at.slice_bounds-header_numbers-end c).Start)))

pub returns : goal.returns
returns c = c.header_numbers.ensures
