-- `sender::fill::guarded` meets its contract.
-- Assumes nothing.
use Rattle.std.proofs.Common.{arith}
use Rattle.sender.proofs.Subframes.{low_fits, subframe_by, subframe_fits}
use Rattle.sender.proofs.fill.guarded.Goals as goal

pub returns : goal.returns
returns c = let a = c.args in
    let given = c.requires in
    subframe_by a.sample_bits a.ancillary_bits a.sample a.ancillary given.0 given.1 given.2 given.3 given.4
    given.5 c.low_in.ensures

pub overflow_add-result-2 : goal.overflow_add-result-2
overflow_add-result-2 c = let a = c.args in
    let given = c.requires in
    omega (
      arith,
      low_fits a.sample_bits a.ancillary_bits a.sample a.ancillary given.0 given.1 given.2 given.3 given.4
          given.5 c.low_in.ensures,
    )

pub overflow_add-result-3 : goal.overflow_add-result-3
overflow_add-result-3 c = let a = c.args in
    let given = c.requires in
    record {
      fits =
          subframe_fits a.sample_bits a.ancillary_bits a.sample a.ancillary given.0 given.1 given.2 given.3
          given.4 given.5 c.low_in.ensures;
    }
