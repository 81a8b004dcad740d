-- `salvaging::parts::header_of` meets its contract.
-- Assumes nothing.
use Rattle.std.proofs.Common.{sym, arith, length-take-le}
use Rattle.salvaging.proofs.parts.header_of.Goals as goal

pub slice_bounds-header_numbers-end : goal.slice_bounds-header_numbers-end
slice_bounds-header_numbers-end c = sym (length-take-le 3 c.args.held (omega (arith, c.well_formed)))

pub returns : goal.returns
returns c = c.header_numbers.ensures
